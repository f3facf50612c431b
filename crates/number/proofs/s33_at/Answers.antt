-- `number::s33_at` meets its contract: one law over the width, at 33.
use borrow.Author.Rules.{rules}
use Rattle.number.proofs.Ranges.{s33_read}
use Rattle.number.proofs.s33_at.Goals as goal

pub returns : goal.returns
returns c = search (s33_read, rules)
