-- `section_forms::struct_at` meets its contract: the fields.
use Rattle.section_forms.proofs.Forms.{struct_refused, struct_got}
use Rattle.section_forms.proofs.struct_at.Goals as goal

pub returns-in_err-n : goal.returns-in_err-n
returns-in_err-n c = struct_refused c.in_err-n.ensures c.from_residual.ensures.1

pub returns : goal.returns
returns c = struct_got c.in_ok-n.ensures
