-- `body_plan_fields::struct_set` meets its contract.
use Rattle.body_plan_fields.proofs.Going.{set-fixed, set_planned, set_refused}
use Rattle.body_plan_fields.proofs.struct_set.Goals as goal

pub returns-then-field-eq1 : goal.returns-then-field-eq1
returns-then-field-eq1 c = search (set_refused, set_planned, set-fixed)

pub returns-else-field-eq1 : goal.returns-else-field-eq1
returns-else-field-eq1 c = search (set_refused, set_planned, set-fixed)
