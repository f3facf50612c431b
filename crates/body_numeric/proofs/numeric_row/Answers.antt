-- `body_numeric::numeric_row` meets its contract.
use borrow.Author.Rules.{rules}
use Rattle.body_numeric.proofs.Table.{apart}
use Rattle.body_numeric.proofs.numeric_row.Goals as goal

pub returns : goal.returns
returns c = search (apart, rules)
