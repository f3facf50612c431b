-- `run_stack::push` meets its contract.
use borrow.Author.Rules.{rules}
use Rattle.run_stack.proofs.OnTop.{top_exits}
use Rattle.run_stack.proofs.push.Goals as goal

pub returns : goal.returns
returns c = search (top_exits, rules)
