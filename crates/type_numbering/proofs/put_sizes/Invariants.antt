use Rattle.type_table.specs.View.{both_codes}
use Rattle.type_numbering.proofs.Walked.{SizesSoFar}
use Rattle.type_numbering.proofs.put_sizes.Given as goal

abbrev pub invariant-loop-k : goal.invariant-loop-k
invariant-loop-k l = SizesSoFar l.n (both_codes l.shared l.codes) l.initial.rows l.rows l.k
