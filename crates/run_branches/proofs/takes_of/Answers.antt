-- `run_branches::takes_of` meets its contract.
use borrow.Author.Rules.{rules}
use Rattle.run_branches.proofs.Outward.{takes_exits}
use Rattle.run_branches.proofs.takes_of.Goals as goal

pub returns-then-w-eq0 : goal.returns-then-w-eq0
returns-then-w-eq0 c = search (takes_exits, rules)

pub returns-else-w-eq0 : goal.returns-else-w-eq0
returns-else-w-eq0 c = search (takes_exits, rules)
