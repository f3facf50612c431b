use Rattle.section_clauses.proofs.Listing.{Linked}
use Rattle.section_clauses.proofs.super_entries.Given as goal

abbrev pub invariant-loop-count : goal.invariant-loop-count
invariant-loop-count l = Linked l.n l.s l.at l.next l.count l.first l.further
