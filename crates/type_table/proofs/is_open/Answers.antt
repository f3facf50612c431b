-- `type_table::is_open` meets its contract: the view reads the same words.
use borrow.Author.Rules.{rules}
use Rattle.type_table.proofs.Rows.{row_exits}
use Rattle.type_table.proofs.is_open.Goals as goal

pub returns : goal.returns
returns c = search (row_exits, rules)
