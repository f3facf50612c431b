use Rattle.body_locals.proofs.Listing.{Listed}
use Rattle.body_locals.proofs.locals_at.Given as goal

abbrev pub invariant-loop : goal.invariant-loop
invariant-loop l = Listed l.types l.n l.before l.s l.at l.initial.work l.work l.first l.next l.counter l.count
