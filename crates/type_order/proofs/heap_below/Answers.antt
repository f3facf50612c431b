-- `type_order::heap_below` meets its contract: the cases of the lower type are those of the test.
use borrow.Author.Rules.{rules}
use Rattle.type_order.proofs.Under.{below_exits}
use Rattle.type_order.proofs.heap_below.Goals as goal

pub returns-in-Abstract : goal.returns-in-Abstract
returns-in-Abstract c = search (below_exits, rules)

pub returns-in-Defined : goal.returns-in-Defined
returns-in-Defined c = search (below_exits, rules)

pub returns-in-Exact : goal.returns-in-Exact
returns-in-Exact c = search (below_exits, rules)
