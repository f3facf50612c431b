-- `type_span::range_word` meets its contract: no lent memory is so long that it has a row beyond the last number.
use borrow.Author.Rules.{rules}
use Rattle.type_table.proofs.Rows.{no_row_lem}
use Rattle.type_span.proofs.range_word.Goals as goal

pub returns-else-x-lt-NO_ROW : goal.returns-else-x-lt-NO_ROW
returns-else-x-lt-NO_ROW c = search (no_row_lem, rules)
