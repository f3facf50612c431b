use Rattle.type_table.specs.View.{both_codes}
use Rattle.type_numbering.proofs.Walked.{StartsSoFar}
use Rattle.type_numbering.proofs.put_starts.Given as goal

abbrev pub invariant-loop-x : goal.invariant-loop-x
invariant-loop-x l = StartsSoFar l.n (both_codes l.shared l.codes) l.initial.rows l.rows l.x l.next
