-- `run_cells::copy_cells` meets its contract: each turn copies one more value.
use borrow.Author.Rules.{rules}
use Rattle.run_cells.proofs.Filling.{copy_exits}
use Rattle.run_cells.proofs.copy_cells.Goals as goal

pub loop-i-init : goal.loop-i-init
loop-i-init c = search (copy_exits, rules)

pub loop-i-preserved : goal.loop-i-preserved
loop-i-preserved c = search (copy_exits, rules)
