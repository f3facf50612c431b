-- `body_fit::as_reference` meets its contract.
use borrow.Author.Rules.{rules}
use Rattle.body_fit.proofs.Fitting.{reference_exits}
use Rattle.body_fit.proofs.as_reference.Goals as goal

pub returns-then-reference : goal.returns-then-reference
returns-then-reference c = search (reference_exits, rules)

pub returns-else-reference : goal.returns-else-reference
returns-else-reference c = search (reference_exits, rules)
