-- `cases_text::zero32` is safe and ends: each turn leaves one word fewer.
use Rattle.std.proofs.Common.{◌-◌, length}
use Rattle.cases_text.proofs.zero32.Given as goal

abbrev pub decreases-loop-i : goal.decreases-loop-i
decreases-loop-i l = length l.m - l.i
