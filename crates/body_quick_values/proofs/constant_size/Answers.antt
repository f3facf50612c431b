use borrow.Author.Rules.{rules}
use borrow.Author.Rules.{rules}
use Rattle.body_quick_values.proofs.Constants.{size_exits}
use Rattle.body_quick_values.proofs.constant_size.Goals as goal

pub returns-in-0 : goal.returns-in-0
returns-in-0 c = search (size_exits, rules)

pub returns-in-1 : goal.returns-in-1
returns-in-1 c = search (size_exits, rules)

pub returns-in-2 : goal.returns-in-2
returns-in-2 c = search (size_exits, rules)

pub returns-in-3 : goal.returns-in-3
returns-in-3 c = search (size_exits, rules)

pub returns-in_default : goal.returns-in_default
returns-in_default c = search (size_exits, rules)
