-- `body_effects::do_plain` meets its contract.
use borrow.Author.Rules.{rules}
use Rattle.body_effects.proofs.Giving.{give_exits}
use Rattle.body_effects.proofs.do_plain.Goals as goal

pub take_plan-taken-requires : goal.take_plan-taken-requires
take_plan-taken-requires c = search (give_exits, rules)

pub enum_known-taken : goal.enum_known-taken
enum_known-taken c = search (give_exits, rules)

pub enum_known-taken-in-Is-1 : goal.enum_known-taken-in-Is-1
enum_known-taken-in-Is-1 c = search (give_exits, rules)

pub give_plain-requires : goal.give_plain-requires
give_plain-requires c = search (give_exits, rules)

pub returns-in-Fault : goal.returns-in-Fault
returns-in-Fault c = search (give_exits, rules)

pub returns-in-Is : goal.returns-in-Is
returns-in-Is c = search (give_exits, rules)
