-- `cases_state::same` is safe and ends: each turn leaves one word fewer.
use Rattle.std.proofs.Common.{◌-◌, length}
use Rattle.cases_state.proofs.same.Given as goal

abbrev pub decreases-loop-i : goal.decreases-loop-i
decreases-loop-i l = length l.a - l.i
