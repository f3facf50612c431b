-- `cases_text::decimal` is safe and ends: a number is cut before it can wrap, and each turn leaves one sign fewer.
use Rattle.std.proofs.Common.{◌-◌, length}
use Rattle.cases_text.proofs.decimal.Given as goal

abbrev pub decreases-loop-i : goal.decreases-loop-i
decreases-loop-i l = length l.word - l.i
