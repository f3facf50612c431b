use borrow.Author.Rules.{rules}
use Rattle.body_quick_structs.proofs.Going.{set_exits}
use Rattle.body_quick_structs.proofs.set.Goals as goal

pub overflow_add-next : goal.overflow_add-next
overflow_add-next c = search (set_exits, rules)

pub field_at-place-requires : goal.field_at-place-requires
field_at-place-requires c = search (set_exits, rules)

pub not_told-requires : goal.not_told-requires
not_told-requires c = search (set_exits, rules)

pub returns-then-n-eq0 : goal.returns-then-n-eq0
returns-then-n-eq0 c = search (set_exits, rules)

pub not_told-requires-then-field-eq0 : goal.not_told-requires-then-field-eq0
not_told-requires-then-field-eq0 c = search (set_exits, rules)

pub returns-then-field-eq0 : goal.returns-then-field-eq0
returns-then-field-eq0 c = search (set_exits, rules)

pub overflow_add-v : goal.overflow_add-v
overflow_add-v c = search (set_exits, rules)

pub taken-t-requires : goal.taken-t-requires
taken-t-requires c = search (set_exits, rules)

pub not_told-requires-then-t-eq0 : goal.not_told-requires-then-t-eq0
not_told-requires-then-t-eq0 c = search (set_exits, rules)

pub returns-then-t-eq0 : goal.returns-then-t-eq0
returns-then-t-eq0 c = search (set_exits, rules)

pub overflow_sub-one : goal.overflow_sub-one
overflow_sub-one c = search (set_exits, rules)

pub overflow_add-w : goal.overflow_add-w
overflow_add-w c = search (set_exits, rules)

pub taken-u-requires : goal.taken-u-requires
taken-u-requires c = search (set_exits, rules)

pub not_told-requires-then-u-eq0 : goal.not_told-requires-then-u-eq0
not_told-requires-then-u-eq0 c = search (set_exits, rules)

pub returns-then-u-eq0 : goal.returns-then-u-eq0
returns-then-u-eq0 c = search (set_exits, rules)

pub overflow_sub-left : goal.overflow_sub-left
overflow_sub-left c = search (set_exits, rules)

pub overflow_add-size : goal.overflow_add-size
overflow_add-size c = search (set_exits, rules)

pub returns : goal.returns
returns c = search (set_exits, rules)
