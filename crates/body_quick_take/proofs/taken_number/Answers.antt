use borrow.Author.Rules.{rules}
use Rattle.body_quick_take.proofs.Takings.{take_exits}
use Rattle.body_quick_take.proofs.taken_number.Goals as goal

pub overflow_add-result : goal.overflow_add-result
overflow_add-result c = search (take_exits, rules)

pub returns-then-dead-eq1 : goal.returns-then-dead-eq1
returns-then-dead-eq1 c = search (take_exits, rules)

pub returns-else-dead-eq1 : goal.returns-else-dead-eq1
returns-else-dead-eq1 c = search (take_exits, rules)

pub overflow_add-top : goal.overflow_add-top
overflow_add-top c = search (take_exits, rules)

pub overflow_sub-top : goal.overflow_sub-top
overflow_sub-top c = search (take_exits, rules)

pub word32-o-requires : goal.word32-o-requires
word32-o-requires c = search (take_exits, rules)

pub returns-then-o-w : goal.returns-then-o-w
returns-then-o-w c = search (take_exits, rules)

pub returns-else-o-w : goal.returns-else-o-w
returns-else-o-w c = search (take_exits, rules)
