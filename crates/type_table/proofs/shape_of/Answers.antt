-- `type_table::shape_of` meets its contract: the view reads the form from the same words.
use borrow.Author.Rules.{rules}
use Rattle.type_table.proofs.Rows.{row_exits}
use Rattle.type_table.proofs.shape_of.Goals as goal

pub returns-then-row_word-eq-FUNC : goal.returns-then-row_word-eq-FUNC
returns-then-row_word-eq-FUNC c = search (row_exits, rules)

pub returns-else-row_word-eq-FUNC : goal.returns-else-row_word-eq-FUNC
returns-else-row_word-eq-FUNC c = search (row_exits, rules)
