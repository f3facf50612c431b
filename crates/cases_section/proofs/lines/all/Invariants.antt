-- `cases_section::lines::all` is safe and ends: each turn ends past the line that it found.
use Rattle.std.proofs.Common.{◌-◌, length}
use Rattle.cases_section.proofs.lines.all.Given as goal

abbrev pub decreases-loop-from : goal.decreases-loop-from
decreases-loop-from g l = length l.text - l.from
