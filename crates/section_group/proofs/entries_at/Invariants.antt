use Rattle.section_group.proofs.Grouping.{Grouped}
use Rattle.section_group.proofs.entries_at.Given as goal

abbrev pub invariant-loop-count : goal.invariant-loop-count
invariant-loop-count l = Grouped l.reach l.first l.n l.s l.at l.initial.rows l.rows l.initial.codes l.codes l.used l.next l.count l.filled
