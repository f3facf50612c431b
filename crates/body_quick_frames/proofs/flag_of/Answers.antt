use borrow.Author.Rules.{rules}
use Rattle.body_quick_frames.proofs.Closes.{flag_exits}
use Rattle.body_quick_frames.proofs.flag_of.Goals as goal

pub returns-then-w-eq1 : goal.returns-then-w-eq1
returns-then-w-eq1 c = search (flag_exits, rules)

pub returns-else-w-eq1 : goal.returns-else-w-eq1
returns-else-w-eq1 c = search (flag_exits, rules)
