-- `type_read::heap_at` meets its contract: 62, an abstract code or a number, by the first byte.
use borrow.Author.Rules.{rules}
use Rattle.type_read.proofs.Heaps.{heap_exits}
use Rattle.type_read.proofs.heap_at.Goals as goal

pub returns-in_default : goal.returns-in_default
returns-in_default c = search (heap_exits, rules)

pub overflow_add-at : goal.overflow_add-at
overflow_add-at c = search (heap_exits, rules)

pub returns-then-b-eq98 : goal.returns-then-b-eq98
returns-then-b-eq98 c = search (heap_exits, rules)

pub returns-in_default-named : goal.returns-in_default-named
returns-in_default-named c = search (heap_exits, rules)

pub overflow_add-result : goal.overflow_add-result
overflow_add-result c = search (heap_exits, rules)

pub returns : goal.returns
returns c = search (heap_exits, rules)
