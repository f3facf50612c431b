use borrow.Author.Rules.{rules}
use Rattle.body_quick_new.proofs.Makes.{default_exits}
use Rattle.body_quick_new.proofs.new_default.Goals as goal

pub overflow_add-next : goal.overflow_add-next
overflow_add-next c = search (default_exits, rules)

pub number_at-read-requires : goal.number_at-read-requires
number_at-read-requires c = search (default_exits, rules)

pub not_told-requires : goal.not_told-requires
not_told-requires c = search (default_exits, rules)

pub returns-then-n-eq0 : goal.returns-then-n-eq0
returns-then-n-eq0 c = search (default_exits, rules)

pub overflow_add-size : goal.overflow_add-size
overflow_add-size c = search (default_exits, rules)

pub undescribed-found-requires : goal.undescribed-found-requires
undescribed-found-requires c = search (default_exits, rules)

pub enum_told-1 : goal.enum_told-1
enum_told-1 c = search (default_exits, rules)

pub not_told-requires-in-Fault : goal.not_told-requires-in-Fault
not_told-requires-in-Fault c = search (default_exits, rules)

pub enum_known-found : goal.enum_known-found
enum_known-found c = search (default_exits, rules)

pub filled-requires : goal.filled-requires
filled-requires c = search (default_exits, rules)

pub returns-in-Fault : goal.returns-in-Fault
returns-in-Fault c = search (default_exits, rules)

pub returns-in-Are : goal.returns-in-Are
returns-in-Are c = search (default_exits, rules)
