use Rattle.run_cells.specs.Cells.{CellsDefault}
use Rattle.type_table.specs.View.{both_codes}
use Rattle.run_cells.proofs.default_cells.Given as goal

abbrev pub invariant-loop-i : goal.invariant-loop-i
invariant-loop-i l = CellsDefault (both_codes l.shared l.codes) l.initial.cells l.cells l.first l.i l.total
