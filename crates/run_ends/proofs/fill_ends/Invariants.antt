use Rattle.run_ends.proofs.Filling.{Going}
use Rattle.run_ends.proofs.fill_ends.Given as goal

abbrev pub invariant-loop : goal.invariant-loop
invariant-loop l = Going l.s l.initial.ends l.first l.ends l.next l.innermost l.counter
