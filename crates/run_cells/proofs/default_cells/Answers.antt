-- `run_cells::default_cells` meets its contract: each turn puts the default of one more field.
use borrow.Author.Rules.{rules}
use Rattle.run_cells.proofs.Filling.{default_exits}
use Rattle.run_cells.proofs.default_cells.Goals as goal

pub loop-i-init : goal.loop-i-init
loop-i-init c = search (default_exits, rules)

pub loop-i-preserved : goal.loop-i-preserved
loop-i-preserved c = search (default_exits, rules)
