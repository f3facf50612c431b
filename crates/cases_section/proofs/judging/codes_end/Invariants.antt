-- `cases_section::judging::codes_end` is safe and ends: each turn leaves one row fewer.
use Rattle.std.proofs.Common.{◌-◌}
use Rattle.cases_section.proofs.judging.codes_end.Given as goal

abbrev pub decreases-loop-number : goal.decreases-loop-number
decreases-loop-number l = l.count - l.number
