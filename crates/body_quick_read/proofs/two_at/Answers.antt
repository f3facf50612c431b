use borrow.Author.Rules.{rules}
use Rattle.body_quick_read.proofs.Shorts.{two_exits}
use Rattle.body_quick_read.proofs.two_at.Goals as goal

pub number_at-x-requires : goal.number_at-x-requires
number_at-x-requires c = search (two_exits, rules)

pub returns-then-n-eq0 : goal.returns-then-n-eq0
returns-then-n-eq0 c = search (two_exits, rules)

pub overflow_add-next : goal.overflow_add-next
overflow_add-next c = search (two_exits, rules)

pub number_at-y-requires : goal.number_at-y-requires
number_at-y-requires c = search (two_exits, rules)

pub returns-then-m-eq0 : goal.returns-then-m-eq0
returns-then-m-eq0 c = search (two_exits, rules)

pub overflow_add-result : goal.overflow_add-result
overflow_add-result c = search (two_exits, rules)

pub returns : goal.returns
returns c = search (two_exits, rules)
