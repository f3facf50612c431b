-- `body_plan_new::struct_new_desc` meets its contract.
use Rattle.body_plan_new.proofs.Making.{desc_planned, desc_refused}
use Rattle.body_plan_new.proofs.struct_new_desc.Goals as goal

pub returns-in-Are : goal.returns-in-Are
returns-in-Are c = search (desc_refused, desc_planned)
