-- `type_abstract::row_number` meets its contract: past the table the last row is read.
use borrow.Author.Rules.{rules}
use Rattle.type_abstract.proofs.Table.{last_row}
use Rattle.type_abstract.proofs.row_number.Goals as goal

pub returns-else-a-lt-TEN : goal.returns-else-a-lt-TEN
returns-else-a-lt-TEN c = search (last_row, rules)
