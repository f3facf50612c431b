use borrow.Author.Rules.{rules}
use Rattle.body_quick_read.proofs.Shorts.{short_exits}
use Rattle.body_quick_read.proofs.float_size.Goals as goal

pub returns-then-all-n : goal.returns-then-all-n
returns-then-all-n c = search (short_exits, rules)

pub returns-then-all-n-2 : goal.returns-then-all-n-2
returns-then-all-n-2 c = search (short_exits, rules)

pub returns-else-all-n-2 : goal.returns-else-all-n-2
returns-else-all-n-2 c = search (short_exits, rules)
