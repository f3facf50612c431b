-- `lent_limits::table_enough` meets its contract.
use borrow.Author.Rules.{rules}
use Rattle.lent_limits.proofs.Enough.{size_exits}
use Rattle.lent_limits.proofs.table_enough.Goals as goal

pub returns-then-rows-lt-ROWS : goal.returns-then-rows-lt-ROWS
returns-then-rows-lt-ROWS c = search (size_exits, rules)

pub returns-then-shared-lt-CODES : goal.returns-then-shared-lt-CODES
returns-then-shared-lt-CODES c = search (size_exits, rules)

pub returns : goal.returns
returns c = search (size_exits, rules)
