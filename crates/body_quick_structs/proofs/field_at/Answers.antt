use borrow.Author.Rules.{rules}
use Rattle.body_quick_structs.proofs.Going.{field_exits}
use Rattle.body_quick_structs.proofs.field_at.Goals as goal

pub two_at-read-requires : goal.two_at-read-requires
two_at-read-requires c = search (field_exits, rules)

pub field_of-found-requires : goal.field_of-found-requires
field_of-found-requires c = search (field_exits, rules)

pub enum_told-1 : goal.enum_told-1
enum_told-1 c = search (field_exits, rules)

pub enum_known-found : goal.enum_known-found
enum_known-found c = search (field_exits, rules)

pub defined_code-object-requires : goal.defined_code-object-requires
defined_code-object-requires c = search (field_exits, rules)

pub returns-in-Fault : goal.returns-in-Fault
returns-in-Fault c = search (field_exits, rules)

pub returns-in-Is : goal.returns-in-Is
returns-in-Is c = search (field_exits, rules)
