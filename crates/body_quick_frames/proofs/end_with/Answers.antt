use borrow.Author.Rules.{rules}
use Rattle.body_quick_frames.proofs.Closes.{one_exits}
use Rattle.body_quick_frames.proofs.end_with.Goals as goal

pub overflow_sub-code : goal.overflow_sub-code
overflow_sub-code c = search (one_exits, rules)

pub overflow_add-v : goal.overflow_add-v
overflow_add-v c = search (one_exits, rules)

pub taken-t-requires : goal.taken-t-requires
taken-t-requires c = search (one_exits, rules)

pub overflow_add-one : goal.overflow_add-one
overflow_add-one c = search (one_exits, rules)

pub overflow_add-below : goal.overflow_add-below
overflow_add-below c = search (one_exits, rules)

pub put-done-requires : goal.put-done-requires
put-done-requires c = search (one_exits, rules)

pub not_told-requires : goal.not_told-requires
not_told-requires c = search (one_exits, rules)

pub returns-then-size-eq0 : goal.returns-then-size-eq0
returns-then-size-eq0 c = search (one_exits, rules)

pub flag_of-dead-requires : goal.flag_of-dead-requires
flag_of-dead-requires c = search (one_exits, rules)

pub overflow_sub-result : goal.overflow_sub-result
overflow_sub-result c = search (one_exits, rules)

pub overflow_add-result : goal.overflow_add-result
overflow_add-result c = search (one_exits, rules)

pub returns-then-t-one : goal.returns-then-t-one
returns-then-t-one c = search (one_exits, rules)

pub not_told-requires-2 : goal.not_told-requires-2
not_told-requires-2 c = search (one_exits, rules)

pub returns : goal.returns
returns c = search (one_exits, rules)
