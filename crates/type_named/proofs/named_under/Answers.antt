-- `type_named::named_under` meets its contract: the cases of the upper type are those of the test.
use borrow.Author.Rules.{rules}
use Rattle.type_named.proofs.Under.{named_exits}
use Rattle.type_named.proofs.named_under.Goals as goal

pub returns-in-Abstract : goal.returns-in-Abstract
returns-in-Abstract c = search (named_exits, rules)

pub returns-in-Defined : goal.returns-in-Defined
returns-in-Defined c = search (named_exits, rules)

pub returns-then-exactly : goal.returns-then-exactly
returns-then-exactly c = search (named_exits, rules)

pub returns-else-exactly : goal.returns-else-exactly
returns-else-exactly c = search (named_exits, rules)
