-- `type_span::put_word` meets its contract: past the greatest number of a row nothing is stored.
use borrow.Author.Rules.{rules}
use Rattle.type_span.proofs.Stores.{no-row-put}
use Rattle.type_span.proofs.put_word.Goals as goal

pub returns-else-x-lt-NO_ROW : goal.returns-else-x-lt-NO_ROW
returns-else-x-lt-NO_ROW c = search (no-row-put, rules)
