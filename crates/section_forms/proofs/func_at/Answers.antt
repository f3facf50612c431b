-- `section_forms::func_at` meets its contract: the parameters, then the results after them in the table.
use Rattle.section_forms.proofs.Forms.{func_refused, results_room, func_no-results, func_got}
use Rattle.section_forms.proofs.func_at.Goals as goal

pub returns-in_err-n : goal.returns-in_err-n
returns-in_err-n c = func_refused c.in_err-n.ensures c.from_residual.ensures.1

pub few_at-requires-2 : goal.few_at-requires-2
few_at-requires-2 c = results_room c.in_ok-n.ensures c.requires

pub returns-in_err-m : goal.returns-in_err-m
returns-in_err-m c = func_no-results c.in_ok-n.ensures c.in_err-m.ensures c.from_residual-in_err-m.ensures.1

pub returns : goal.returns
returns c = func_got c.in_ok-n.ensures c.in_ok-m.ensures
