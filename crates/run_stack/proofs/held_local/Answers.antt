-- `run_stack::held_local` meets its contract.
use borrow.Author.Rules.{rules}
use Rattle.run_stack.proofs.Held.{local_exits}
use Rattle.run_stack.proofs.held_local.Goals as goal

pub returns-then-kind-eq-NO_VALUE : goal.returns-then-kind-eq-NO_VALUE
returns-then-kind-eq-NO_VALUE c = search (local_exits, rules)

pub returns-then-x-count : goal.returns-then-x-count
returns-then-x-count c = search (local_exits, rules)

pub returns : goal.returns
returns c = search (local_exits, rules)
