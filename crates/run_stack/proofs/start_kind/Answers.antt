-- `run_stack::start_kind` meets its contract.
use borrow.Author.Rules.{rules}
use Rattle.run_stack.proofs.Starts.{start_exits}
use Rattle.run_stack.proofs.start_kind.Goals as goal

pub returns-then-code-lt-REFERENCES : goal.returns-then-code-lt-REFERENCES
returns-then-code-lt-REFERENCES c = search (start_exits, rules)

pub returns-then-code-eq1 : goal.returns-then-code-eq1
returns-then-code-eq1 c = search (start_exits, rules)

pub returns : goal.returns
returns c = search (start_exits, rules)
