-- `cases_text::find` is safe and ends: the place only grows, and each turn leaves one sign fewer.
use Rattle.std.proofs.Common.{◌-◌, ◌≤◌, length}
use Rattle.cases_text.proofs.find.Given as goal

abbrev pub invariant-loop-at : goal.invariant-loop-at
invariant-loop-at l = l.from ≤ l.at

abbrev pub decreases-loop-at : goal.decreases-loop-at
decreases-loop-at l = length l.text - l.at
