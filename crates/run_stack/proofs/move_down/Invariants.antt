use Rattle.run_stack.proofs.GoingDown.{Down}
use Rattle.run_stack.proofs.move_down.Given as goal

abbrev pub invariant-loop-i : goal.invariant-loop-i
invariant-loop-i l = Down l.initial.m l.m l.from l.to l.i
