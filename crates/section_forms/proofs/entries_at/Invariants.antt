use Rattle.section_forms.proofs.Lists.{Listed}
use Rattle.section_forms.proofs.entries_at.Given as goal

abbrev pub invariant-loop-count : goal.invariant-loop-count
invariant-loop-count l = Listed l.fields l.n l.s l.at l.initial.codes l.codes l.used l.next l.count
