use borrow.Author.Rules.{rules}
use borrow.Author.Rules.{rules}
use Rattle.body_quick_values.proofs.Constants.{constant_exits}
use Rattle.body_quick_values.proofs.constant.Goals as goal

pub returns-then-n-eq0 : goal.returns-then-n-eq0
returns-then-n-eq0 c = search (constant_exits, rules)

pub overflow_add-size : goal.overflow_add-size
overflow_add-size c = search (constant_exits, rules)

pub returns : goal.returns
returns c = search (constant_exits, rules)
