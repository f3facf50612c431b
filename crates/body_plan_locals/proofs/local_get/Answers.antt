-- `body_plan_locals::local_get` meets its contract.
use borrow.Author.Rules.{rules}
use Rattle.body_plan_locals.proofs.Locals.{local_exits}
use Rattle.body_plan_locals.proofs.local_get.Goals as goal

pub returns-then-not-is_set : goal.returns-then-not-is_set
returns-then-not-is_set c = search (local_exits, rules)

pub returns-else-not-is_set : goal.returns-else-not-is_set
returns-else-not-is_set c = search (local_exits, rules)
