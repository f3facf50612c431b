use Rattle.std.proofs.Common.{◌≡◌, replicate, take}
use Rattle.run_values.proofs.fill_from.Given as goal

abbrev pub invariant-loop-word : goal.invariant-loop-word
invariant-loop-word g l = take l.word-index l.word-items ≡ replicate l.word-index l.value
