-- `section_definition::put_row` meets its contract: four words, four times.
use borrow.Author.Rules.{rules}
use Rattle.section_definition.proofs.Writing.{row_exits}
use Rattle.section_definition.proofs.put_row.Goals as goal

pub put_four-requires-4 : goal.put_four-requires-4
put_four-requires-4 c = search (row_exits, rules)

pub returns : goal.returns
returns c = search (row_exits, rules)
