-- `body_operands::take_plan` meets its contract: one part after the other.
use borrow.Author.Rules.{rules}
use Rattle.body_operands.proofs.Several.{part_exits}
use Rattle.body_operands.proofs.take_plan.Goals as goal

pub returns-in-Fault : goal.returns-in-Fault
returns-in-Fault c = search (part_exits, rules)

pub returns-in-Fault-next : goal.returns-in-Fault-next
returns-in-Fault-next c = search (part_exits, rules)

pub returns-in-Is-next : goal.returns-in-Is-next
returns-in-Is-next c = search (part_exits, rules)
