-- `body_plan_carried::carries` meets its contract.
use borrow.Author.Rules.{rules}
use Rattle.body_plan_carried.proofs.Carrying.{carried_nullable, carried_unfit}
use Rattle.body_plan_carried.proofs.carries.Goals as goal

pub returns-in-ButForNull : goal.returns-in-ButForNull
returns-in-ButForNull c = search (carried_nullable, rules)

pub returns-in-Unfit : goal.returns-in-Unfit
returns-in-Unfit c = search (carried_unfit, rules)
