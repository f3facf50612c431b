-- `cases_text::bytes` is safe and ends: each turn ends past the word that it found.
use Rattle.std.proofs.Common.{◌-◌, length}
use Rattle.cases_text.proofs.bytes.Given as goal

abbrev pub decreases-loop-from : goal.decreases-loop-from
decreases-loop-from l = length l.line - l.from
