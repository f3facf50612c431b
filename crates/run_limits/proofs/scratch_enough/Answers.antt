-- `run_limits::scratch_enough` meets its contract.
use borrow.Author.Rules.{rules}
use Rattle.lent_limits.proofs.Enough.{size_exits}
use Rattle.run_limits.proofs.scratch_enough.Goals as goal

pub returns-then-not-table_enough : goal.returns-then-not-table_enough
returns-then-not-table_enough c = search (size_exits, rules)

pub returns-then-work-lt-WORK : goal.returns-then-work-lt-WORK
returns-then-work-lt-WORK c = search (size_exits, rules)

pub returns : goal.returns
returns c = search (size_exits, rules)
