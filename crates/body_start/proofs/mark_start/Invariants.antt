use Rattle.body_start.specs.Beginning.{MarksPut}
use Rattle.body_start.proofs.mark_start.Given as goal

abbrev pub invariant-loop-i : goal.invariant-loop-i
invariant-loop-i l = MarksPut l.initial.work l.work l.params l.i
