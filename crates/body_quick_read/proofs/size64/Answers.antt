use borrow.Author.Rules.{rules}
use Rattle.body_quick_read.proofs.Shorts.{short_exits}
use Rattle.body_quick_read.proofs.size64.Goals as goal

pub byte-b-requires : goal.byte-b-requires
byte-b-requires c = search (short_exits, rules)

pub long64-requires : goal.long64-requires
long64-requires c = search (short_exits, rules)

pub returns-then-b-lt128 : goal.returns-then-b-lt128
returns-then-b-lt128 c = search (short_exits, rules)

pub returns-else-b-lt128 : goal.returns-else-b-lt128
returns-else-b-lt128 c = search (short_exits, rules)
