-- `run_stack::move_down` meets its contract: each turn one more value is moved.
use borrow.Author.Rules.{rules}
use Rattle.run_stack.proofs.GoingDown.{down_exits}
use Rattle.run_stack.proofs.move_down.Goals as goal

pub loop-i-init : goal.loop-i-init
loop-i-init c = search (down_exits, rules)

pub loop-i-preserved : goal.loop-i-preserved
loop-i-preserved c = search (down_exits, rules)

pub returns : goal.returns
returns c = search (down_exits, rules)
