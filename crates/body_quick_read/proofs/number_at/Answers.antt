use borrow.Author.Rules.{rules}
use Rattle.body_quick_read.proofs.Shorts.{short_exits}
use Rattle.body_quick_read.proofs.number_at.Goals as goal

pub byte-b-requires : goal.byte-b-requires
byte-b-requires c = search (short_exits, rules)

pub returns-then-b-lt128 : goal.returns-then-b-lt128
returns-then-b-lt128 c = search (short_exits, rules)

pub long_number-requires : goal.long_number-requires
long_number-requires c = search (short_exits, rules)

pub returns : goal.returns
returns c = search (short_exits, rules)
