-- `body_plan_parts::stops` meets its contract.
use borrow.Author.Rules.{rules}
use Rattle.body_plan_parts.proofs.Words.{planning_exits}
use Rattle.body_plan_parts.proofs.stops.Goals as goal

pub returns : goal.returns
returns c = search (planning_exits, rules)
