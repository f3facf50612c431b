use borrow.Author.Rules.{rules}
use Rattle.body_quick_read.proofs.Shorts.{short_exits}
use Rattle.body_quick_read.proofs.size32.Goals as goal

pub byte-b-requires : goal.byte-b-requires
byte-b-requires c = search (short_exits, rules)

pub long32-requires : goal.long32-requires
long32-requires c = search (short_exits, rules)

pub returns-then-b-lt128 : goal.returns-then-b-lt128
returns-then-b-lt128 c = search (short_exits, rules)

pub returns-else-b-lt128 : goal.returns-else-b-lt128
returns-else-b-lt128 c = search (short_exits, rules)
