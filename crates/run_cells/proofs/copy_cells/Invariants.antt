use Rattle.run_cells.specs.Cells.{CellsCopied}
use Rattle.run_cells.proofs.copy_cells.Given as goal

abbrev pub invariant-loop-i : goal.invariant-loop-i
invariant-loop-i l = CellsCopied l.from l.initial.cells l.cells l.at l.total l.i
