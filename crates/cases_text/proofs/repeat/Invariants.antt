-- `cases_text::repeat` is safe and ends: each turn leaves one time fewer.
use Rattle.std.proofs.Common.{◌-◌}
use Rattle.cases_text.proofs.repeat.Given as goal

abbrev pub decreases-loop-before : goal.decreases-loop-before
decreases-loop-before l = l.times - l.before
