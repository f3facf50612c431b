-- `run_passing::passes_cast` meets its contract.
use borrow.Author.Rules.{rules}
use Rattle.run_passing.proofs.Passings.{passing_exits}
use Rattle.run_passing.proofs.passes_cast.Goals as goal

pub returns-then-n-o : goal.returns-then-n-o
returns-then-n-o c = search (passing_exits, rules)

pub returns-else-n-o : goal.returns-else-n-o
returns-else-n-o c = search (passing_exits, rules)
