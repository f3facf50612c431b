-- `body_numeric::is_numeric` meets its contract.
use borrow.Author.Rules.{rules}
use Rattle.body_numeric.proofs.Table.{covered}
use Rattle.body_numeric.proofs.is_numeric.Goals as goal

pub returns-then-b-lt-FIRST : goal.returns-then-b-lt-FIRST
returns-then-b-lt-FIRST c = search (covered, rules)

pub returns : goal.returns
returns c = search (covered, rules)
