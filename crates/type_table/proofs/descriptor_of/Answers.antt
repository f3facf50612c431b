-- `type_table::descriptor_of` meets its contract: the view reads the same words.
use borrow.Author.Rules.{rules}
use Rattle.type_table.proofs.Rows.{row_exits}
use Rattle.type_table.proofs.descriptor_of.Goals as goal

pub returns : goal.returns
returns c = search (row_exits, rules)
