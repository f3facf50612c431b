-- `type_table::link_of` meets its contract: 0 is none, else one more than the number.
use borrow.Author.Rules.{rules}
use Rattle.type_table.proofs.Rows.{row_exits}
use Rattle.type_table.proofs.link_of.Goals as goal

pub returns-then-w-eq0 : goal.returns-then-w-eq0
returns-then-w-eq0 c = search (row_exits, rules)

pub returns-else-w-eq0 : goal.returns-else-w-eq0
returns-else-w-eq0 c = search (row_exits, rules)
