-- `run_stack::move_one` meets its contract.
use borrow.Author.Rules.{rules}
use Rattle.run_stack.proofs.GoingDown.{down_exits}
use Rattle.run_stack.proofs.move_one.Goals as goal

pub returns : goal.returns
returns c = search (down_exits, rules)
