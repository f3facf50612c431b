-- `cases_section::asking::tell_bytes` is safe and ends: each turn leaves one byte fewer.
use Rattle.std.proofs.Common.{◌-◌, length}
use Rattle.cases_section.proofs.asking.tell_bytes.Given as goal

abbrev pub decreases-loop-i : goal.decreases-loop-i
decreases-loop-i g l = length l.part - l.i
