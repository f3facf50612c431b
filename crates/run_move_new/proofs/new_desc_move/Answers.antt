-- `run_move_new::new_desc_move` meets its contract.
use borrow.Author.Rules.{rules}
use Rattle.run_move_new.proofs.Makers.{new_exits}
use Rattle.run_move_new.proofs.new_desc_move.Goals as goal

pub reference_of-reference-requires : goal.reference_of-reference-requires
reference_of-reference-requires c = search (new_exits, rules)

pub enum_told-1 : goal.enum_told-1
enum_told-1 c = search (new_exits, rules)

pub enum_told-in-Null : goal.enum_told-in-Null
enum_told-in-Null c = search (new_exits, rules)

pub enum_known-reference : goal.enum_known-reference
enum_known-reference c = search (new_exits, rules)

pub returns-then-n-d : goal.returns-then-n-d
returns-then-n-d c = search (new_exits, rules)

pub overflow_add-d : goal.overflow_add-d
overflow_add-d c = search (new_exits, rules)

pub overflow_cast-d : goal.overflow_cast-d
overflow_cast-d c = search (new_exits, rules)

pub given_move-requires : goal.given_move-requires
given_move-requires c = search (new_exits, rules)

pub returns-in-Wrong : goal.returns-in-Wrong
returns-in-Wrong c = search (new_exits, rules)

pub returns-in-Null : goal.returns-in-Null
returns-in-Null c = search (new_exits, rules)

pub returns-else-n-d : goal.returns-else-n-d
returns-else-n-d c = search (new_exits, rules)
