use lib.ListN.{replicate}
use Rattle.type_table.proofs.Puts.{Puts}
use Rattle.body_locals.proofs.fill.Given as goal

abbrev pub invariant-loop-i : goal.invariant-loop-i
invariant-loop-i l = Puts l.initial.work l.work l.at (replicate l.i l.code)
