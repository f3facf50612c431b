-- `type_order::abstract_under` meets its contract: the cases of the upper type are those of the test.
use borrow.Author.Rules.{rules}
use Rattle.type_order.proofs.Under.{under_exits}
use Rattle.type_order.proofs.abstract_under.Goals as goal

pub returns-in-Abstract : goal.returns-in-Abstract
returns-in-Abstract c = search (under_exits, rules)

pub returns-in-Defined : goal.returns-in-Defined
returns-in-Defined c = search (under_exits, rules)

pub returns-in-Exact : goal.returns-in-Exact
returns-in-Exact c = search (under_exits, rules)
