-- `type_fit::same_val` meets its contract: each value type has one code.
use borrow.Author.Rules.{rules}
use Rattle.type_fit.proofs.Same.{same_by_code}
use Rattle.type_fit.proofs.same_val.Goals as goal

pub returns : goal.returns
returns c = search (same_by_code, rules)
