-- `cases_state::widen` is safe and ends: each turn leaves one word fewer.
use Rattle.std.proofs.Common.{◌-◌, length}
use Rattle.cases_state.proofs.widen.Given as goal

abbrev pub decreases-loop-i : goal.decreases-loop-i
decreases-loop-i l = length l.from - l.i
