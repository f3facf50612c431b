-- `body_numeric::numeric_word` meets its contract.
use borrow.Author.Rules.{rules}
use Rattle.body_numeric.proofs.Table.{past_end}
use Rattle.body_numeric.proofs.numeric_word.Goals as goal

pub returns-then-k-table : goal.returns-then-k-table
returns-then-k-table c = search (past_end, rules)

pub returns-else-k-table : goal.returns-else-k-table
returns-else-k-table c = search (past_end, rules)
