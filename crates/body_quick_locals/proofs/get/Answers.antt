use borrow.Author.Rules.{rules}
use borrow.Author.Rules.{rules}
use Rattle.body_quick_locals.proofs.Locals.{get_exits}
use Rattle.body_quick_locals.proofs.get.Goals as goal

pub returns-then-n-eq0 : goal.returns-then-n-eq0
returns-then-n-eq0 c = search (get_exits, rules)

pub overflow_cast-x : goal.overflow_cast-x
overflow_cast-x c = search (get_exits, rules)

pub returns-then-not-is_set : goal.returns-then-not-is_set
returns-then-not-is_set c = search (get_exits, rules)

pub overflow_add-size : goal.overflow_add-size
overflow_add-size c = search (get_exits, rules)

pub returns : goal.returns
returns c = search (get_exits, rules)
