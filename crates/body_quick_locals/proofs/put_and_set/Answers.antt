use borrow.Author.Rules.{rules}
use borrow.Author.Rules.{rules}
use Rattle.body_quick_locals.proofs.Locals.{put_exits}
use Rattle.body_quick_locals.proofs.put_and_set.Goals as goal

pub returns-then-told-eq0 : goal.returns-then-told-eq0
returns-then-told-eq0 c = search (put_exits, rules)

pub returns : goal.returns
returns c = search (put_exits, rules)
