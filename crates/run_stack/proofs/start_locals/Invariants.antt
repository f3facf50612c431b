use Rattle.run_stack.specs.Pile.{Started}
use Rattle.run_stack.proofs.start_locals.Given as goal

abbrev pub invariant-loop-i : goal.invariant-loop-i
invariant-loop-i l = Started l.work l.initial.locals l.locals l.i
