-- `run_stack::top` meets its contract.
use borrow.Author.Rules.{rules}
use Rattle.run_stack.proofs.OnTop.{top_exits}
use Rattle.run_stack.proofs.top.Goals as goal

pub returns-then-h-eq0 : goal.returns-then-h-eq0
returns-then-h-eq0 c = search (top_exits, rules)

pub returns : goal.returns
returns c = search (top_exits, rules)
