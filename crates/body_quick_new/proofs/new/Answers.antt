use borrow.Author.Rules.{rules}
use Rattle.body_quick_new.proofs.Makes.{new_exits}
use Rattle.body_quick_new.proofs.new.Goals as goal

pub overflow_add-next : goal.overflow_add-next
overflow_add-next c = search (new_exits, rules)

pub number_at-read-requires : goal.number_at-read-requires
number_at-read-requires c = search (new_exits, rules)

pub not_told-requires : goal.not_told-requires
not_told-requires c = search (new_exits, rules)

pub returns-then-n-eq0 : goal.returns-then-n-eq0
returns-then-n-eq0 c = search (new_exits, rules)

pub overflow_add-size : goal.overflow_add-size
overflow_add-size c = search (new_exits, rules)

pub undescribed-found-requires : goal.undescribed-found-requires
undescribed-found-requires c = search (new_exits, rules)

pub enum_told-1 : goal.enum_told-1
enum_told-1 c = search (new_exits, rules)

pub not_told-requires-in-Fault : goal.not_told-requires-in-Fault
not_told-requires-in-Fault c = search (new_exits, rules)

pub enum_known-found : goal.enum_known-found
enum_known-found c = search (new_exits, rules)

pub made_of-requires : goal.made_of-requires
made_of-requires c = search (new_exits, rules)

pub returns-in-Fault : goal.returns-in-Fault
returns-in-Fault c = search (new_exits, rules)

pub returns-in-Are : goal.returns-in-Are
returns-in-Are c = search (new_exits, rules)
