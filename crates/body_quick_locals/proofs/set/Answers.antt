use borrow.Author.Rules.{rules}
use borrow.Author.Rules.{rules}
use Rattle.body_quick_locals.proofs.Locals.{set_exits}
use Rattle.body_quick_locals.proofs.set.Goals as goal

pub returns-then-n-eq0 : goal.returns-then-n-eq0
returns-then-n-eq0 c = search (set_exits, rules)

pub returns-then-t-eq0 : goal.returns-then-t-eq0
returns-then-t-eq0 c = search (set_exits, rules)

pub overflow_add-marks : goal.overflow_add-marks
overflow_add-marks c = search (set_exits, rules)

pub overflow_add-size : goal.overflow_add-size
overflow_add-size c = search (set_exits, rules)

pub returns : goal.returns
returns c = search (set_exits, rules)
