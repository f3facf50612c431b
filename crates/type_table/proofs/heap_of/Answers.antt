-- `type_table::heap_of` meets its contract: each test of a code is one that its reading makes.
use borrow.Author.Rules.{rules}
use Rattle.type_table.proofs.Laws.{code_exits}
use Rattle.type_table.proofs.heap_of.Goals as goal

pub returns-then-c-lt10 : goal.returns-then-c-lt10
returns-then-c-lt10 c = search (code_exits, rules)

pub returns-then-c-eq1 : goal.returns-then-c-eq1
returns-then-c-eq1 c = search (code_exits, rules)

pub returns-else-c-eq1 : goal.returns-else-c-eq1
returns-else-c-eq1 c = search (code_exits, rules)
