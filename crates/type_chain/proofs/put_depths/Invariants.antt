use Rattle.type_table.specs.View.{both_codes}
use Rattle.type_chain.proofs.Depths.{DepthsSoFar}
use Rattle.type_chain.proofs.put_depths.Given as goal

abbrev pub invariant-loop-x : goal.invariant-loop-x
invariant-loop-x l = DepthsSoFar l.n (both_codes l.shared l.codes) l.initial.rows l.rows l.x
