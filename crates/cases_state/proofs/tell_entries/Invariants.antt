-- `cases_state::tell_entries` is safe and ends: each turn leaves one entry fewer.
use Rattle.cases_state.proofs.tell_entries.Given as goal

abbrev pub decreases-loop-left : goal.decreases-loop-left
decreases-loop-left g l = l.left
