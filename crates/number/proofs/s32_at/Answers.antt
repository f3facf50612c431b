-- `number::s32_at` meets its contract: one law over the width, at 32.
use borrow.Author.Rules.{rules}
use Rattle.number.proofs.Ranges.{s32_read}
use Rattle.number.proofs.s32_at.Goals as goal

pub returns : goal.returns
returns c = search (s32_read, rules)
