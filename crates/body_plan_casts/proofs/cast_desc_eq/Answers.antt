-- `body_plan_casts::cast_desc_eq` meets its contract.
use borrow.Author.Rules.{rules}
use Rattle.body_plan_casts.proofs.Casting.{casting_exits}
use Rattle.body_plan_casts.proofs.cast_desc_eq.Goals as goal

pub returns-in-Some : goal.returns-in-Some
returns-in-Some c = search (casting_exits, rules)
