use Rattle.number_floats.proofs.Floats.{Lower}
use Rattle.number_floats.proofs.float_at.Given as goal

abbrev pub invariant-loop-i : goal.invariant-loop-i
invariant-loop-i l = Lower l.n l.s l.at l.bits l.i
