-- `cases_section::asking::same_words` is safe and ends: the lengths are equal, and each turn leaves one word fewer.
use Rattle.std.proofs.Common.{◌-◌, length}
use Rattle.cases_section.proofs.asking.same_words.Given as goal

abbrev pub decreases-loop-i : goal.decreases-loop-i
decreases-loop-i l = length l.a - l.i
