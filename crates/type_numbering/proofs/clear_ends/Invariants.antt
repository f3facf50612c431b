use Rattle.type_numbering.proofs.Walked.{EndsSoFar}
use Rattle.type_numbering.proofs.clear_ends.Given as goal

abbrev pub invariant-loop-x : goal.invariant-loop-x
invariant-loop-x l = EndsSoFar l.n l.initial.rows l.rows l.x
