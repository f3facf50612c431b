-- `type_table::supers_of` meets its contract: each of the two words is 0 or names a supertype, in the view too.
use borrow.Author.Rules.{rules}
use Rattle.type_table.proofs.Rows.{row_exits}
use Rattle.type_table.proofs.supers_of.Goals as goal

pub returns-then-v-eq0 : goal.returns-then-v-eq0
returns-then-v-eq0 c = search (row_exits, rules)

pub returns-else-v-eq0 : goal.returns-else-v-eq0
returns-else-v-eq0 c = search (row_exits, rules)

pub returns-then-v-eq0-2 : goal.returns-then-v-eq0-2
returns-then-v-eq0-2 c = search (row_exits, rules)

pub returns-else-v-eq0-2 : goal.returns-else-v-eq0-2
returns-else-v-eq0-2 c = search (row_exits, rules)
