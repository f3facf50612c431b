-- `type_table::val_of` meets its contract: each test of a code is one that its reading makes.
use borrow.Author.Rules.{rules}
use Rattle.type_table.proofs.Laws.{code_exits}
use Rattle.type_table.proofs.val_of.Goals as goal

pub returns-then-c-lt4 : goal.returns-then-c-lt4
returns-then-c-lt4 c = search (code_exits, rules)

pub returns-else-c-lt4 : goal.returns-else-c-lt4
returns-else-c-lt4 c = search (code_exits, rules)
