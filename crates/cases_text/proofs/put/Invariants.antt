-- `cases_text::put` is safe and ends: each turn leaves two signs fewer.
use Rattle.std.proofs.Common.{◌-◌, ◌≤◌, length}
use Rattle.cases_text.proofs.put.Given as goal

abbrev pub invariant-loop-low : goal.invariant-loop-low
invariant-loop-low l = 1 ≤ l.low

abbrev pub decreases-loop-low : goal.decreases-loop-low
decreases-loop-low l = length l.word - l.low
