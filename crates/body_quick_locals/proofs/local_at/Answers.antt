use borrow.Author.Rules.{rules}
use borrow.Author.Rules.{rules}
use Rattle.body_quick_locals.proofs.Locals.{named_exits}
use Rattle.body_quick_locals.proofs.local_at.Goals as goal

pub returns-then-locals-x : goal.returns-then-locals-x
returns-then-locals-x c = search (named_exits, rules)

pub returns : goal.returns
returns c = search (named_exits, rules)
