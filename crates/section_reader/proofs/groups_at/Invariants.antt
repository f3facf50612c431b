use Prim.Native.Nat.{◌-◌}
use Rattle.section_reader.proofs.Walking.{Walked}
use Rattle.section_reader.proofs.groups_at.Given as goal

abbrev pub invariant-loop : goal.invariant-loop
invariant-loop l = Walked l.n l.before l.base l.s l.at l.initial.rows l.rows l.initial.codes l.codes l.next (l.n - l.counter) l.first l.used
