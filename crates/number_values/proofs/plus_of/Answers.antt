-- `number_values::plus_of` meets its contract: a byte to spare, or none.
use borrow.Author.Rules.{rules}
use Rattle.number_values.proofs.Needed.{plus_needed, plus_padded}
use Rattle.number_values.proofs.plus_of.Goals as goal

pub returns-then-spare : goal.returns-then-spare
returns-then-spare c = search (plus_padded, rules)

pub returns : goal.returns
returns c = search (plus_needed, rules)
