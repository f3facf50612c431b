use borrow.Author.Rules.{rules}
use Rattle.body_quick_take.proofs.Takings.{put_exits}
use Rattle.body_quick_take.proofs.put.Goals as goal

pub not_told-requires : goal.not_told-requires
not_told-requires c = search (put_exits, rules)

pub returns-then-top-ge-MOST_OPERANDS : goal.returns-then-top-ge-MOST_OPERANDS
returns-then-top-ge-MOST_OPERANDS c = search (put_exits, rules)

pub overflow_add-top : goal.overflow_add-top
overflow_add-top c = search (put_exits, rules)

pub put32-requires : goal.put32-requires
put32-requires c = search (put_exits, rules)

pub overflow_add-result : goal.overflow_add-result
overflow_add-result c = search (put_exits, rules)

pub returns : goal.returns
returns c = search (put_exits, rules)
