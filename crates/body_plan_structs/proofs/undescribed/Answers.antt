-- `body_plan_structs::undescribed` meets its contract.
use Rattle.body_plan_structs.proofs.Describing.{undescribed_is, undescribed-not, undescribed_refused}
use Rattle.body_plan_structs.proofs.undescribed.Goals as goal

pub returns-in-Some : goal.returns-in-Some
returns-in-Some c = search (undescribed_refused, undescribed_is, undescribed-not)
