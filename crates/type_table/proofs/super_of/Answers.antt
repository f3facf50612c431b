-- `type_table::super_of` meets its contract: the first word that is not 0 names the supertype, in the view too.
use borrow.Author.Rules.{rules}
use Rattle.type_table.proofs.Rows.{row_exits}
use Rattle.type_table.proofs.super_of.Goals as goal

pub returns-then-w-eq0 : goal.returns-then-w-eq0
returns-then-w-eq0 c = search (row_exits, rules)

pub returns-else-w-eq0 : goal.returns-else-w-eq0
returns-else-w-eq0 c = search (row_exits, rules)
