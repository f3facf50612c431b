-- `body_end::end_with` meets its contract.
use borrow.Author.Rules.{rules}
use Rattle.body_end.proofs.Ending.{end_exits}
use Rattle.body_end.proofs.end_with.Goals as goal

pub take_list-taken-requires : goal.take_list-taken-requires
take_list-taken-requires c = search (end_exits, rules)

pub enum_known-taken : goal.enum_known-taken
enum_known-taken c = search (end_exits, rules)

pub enum_known-taken-in-Is-1 : goal.enum_known-taken-in-Is-1
enum_known-taken-in-Is-1 c = search (end_exits, rules)

pub returns-then-left-eq0 : goal.returns-then-left-eq0
returns-then-left-eq0 c = search (end_exits, rules)

pub returns-in-Fault : goal.returns-in-Fault
returns-in-Fault c = search (end_exits, rules)

pub returns-else-left-eq0 : goal.returns-else-left-eq0
returns-else-left-eq0 c = search (end_exits, rules)
