-- `run_stack::start_locals` meets its contract: each turn one more local has its start.
use borrow.Author.Rules.{rules}
use Rattle.run_stack.proofs.Starts.{start_exits}
use Rattle.run_stack.proofs.start_locals.Goals as goal

pub loop-i-init : goal.loop-i-init
loop-i-init c = search (start_exits, rules)

pub loop-i-preserved : goal.loop-i-preserved
loop-i-preserved c = search (start_exits, rules)
