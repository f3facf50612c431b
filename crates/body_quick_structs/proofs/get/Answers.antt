use borrow.Author.Rules.{rules}
use Rattle.body_quick_structs.proofs.Going.{get_exits}
use Rattle.body_quick_structs.proofs.get.Goals as goal

pub overflow_add-next : goal.overflow_add-next
overflow_add-next c = search (get_exits, rules)

pub field_at-place-requires : goal.field_at-place-requires
field_at-place-requires c = search (get_exits, rules)

pub not_told-requires : goal.not_told-requires
not_told-requires c = search (get_exits, rules)

pub returns-then-n-eq0 : goal.returns-then-n-eq0
returns-then-n-eq0 c = search (get_exits, rules)

pub overflow_add-w : goal.overflow_add-w
overflow_add-w c = search (get_exits, rules)

pub taken-t-requires : goal.taken-t-requires
taken-t-requires c = search (get_exits, rules)

pub not_told-requires-then-t-eq0 : goal.not_told-requires-then-t-eq0
not_told-requires-then-t-eq0 c = search (get_exits, rules)

pub returns-then-t-eq0 : goal.returns-then-t-eq0
returns-then-t-eq0 c = search (get_exits, rules)

pub overflow_sub-left : goal.overflow_sub-left
overflow_sub-left c = search (get_exits, rules)

pub overflow_add-v : goal.overflow_add-v
overflow_add-v c = search (get_exits, rules)

pub overflow_add-size : goal.overflow_add-size
overflow_add-size c = search (get_exits, rules)

pub put-requires : goal.put-requires
put-requires c = search (get_exits, rules)

pub returns : goal.returns
returns c = search (get_exits, rules)
