use borrow.Author.Rules.{rules}
use Rattle.body_quick_new.proofs.Makes.{made_exits}
use Rattle.body_quick_new.proofs.made_of.Goals as goal

pub overflow_sub-height : goal.overflow_sub-height
overflow_sub-height c = search (made_exits, rules)

pub overflow_cast-base : goal.overflow_cast-base
overflow_cast-base c = search (made_exits, rules)

pub overflow_cast-height : goal.overflow_cast-height
overflow_cast-height c = search (made_exits, rules)

pub take_list-taken-requires : goal.take_list-taken-requires
take_list-taken-requires c = search (made_exits, rules)

pub enum_told-1 : goal.enum_told-1
enum_told-1 c = search (made_exits, rules)

pub not_told-requires : goal.not_told-requires
not_told-requires c = search (made_exits, rules)

pub enum_known-taken : goal.enum_known-taken
enum_known-taken c = search (made_exits, rules)

pub exact_code-made-requires : goal.exact_code-made-requires
exact_code-made-requires c = search (made_exits, rules)

pub overflow_add-w : goal.overflow_add-w
overflow_add-w c = search (made_exits, rules)

pub overflow_cast-below : goal.overflow_cast-below
overflow_cast-below c = search (made_exits, rules)

pub overflow_add-below : goal.overflow_add-below
overflow_add-below c = search (made_exits, rules)

pub put-requires : goal.put-requires
put-requires c = search (made_exits, rules)

pub returns-in-Fault : goal.returns-in-Fault
returns-in-Fault c = search (made_exits, rules)

pub returns-in-Is : goal.returns-in-Is
returns-in-Is c = search (made_exits, rules)
