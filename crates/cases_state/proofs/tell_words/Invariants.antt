-- `cases_state::tell_words` is safe and ends: each turn leaves one word fewer.
use Rattle.std.proofs.Common.{◌-◌, length}
use Rattle.cases_state.proofs.tell_words.Given as goal

abbrev pub decreases-loop-i : goal.decreases-loop-i
decreases-loop-i g l = length l.entry - l.i
