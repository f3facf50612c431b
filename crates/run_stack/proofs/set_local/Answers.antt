-- `run_stack::set_local` meets its contract.
use borrow.Author.Rules.{rules}
use Rattle.run_stack.proofs.Held.{local_exits}
use Rattle.run_stack.proofs.set_local.Goals as goal

pub returns-then-x-count : goal.returns-then-x-count
returns-then-x-count c = search (local_exits, rules)

pub returns-else-x-count : goal.returns-else-x-count
returns-else-x-count c = search (local_exits, rules)
