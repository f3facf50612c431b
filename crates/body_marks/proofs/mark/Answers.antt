-- `body_marks::mark` meets its contract.
use borrow.Author.Rules.{rules}
use Rattle.body_marks.proofs.Setting.{mark_exits, mark_new}
use Rattle.body_marks.proofs.mark.Goals as goal

pub returns-then-marks-eq0 : goal.returns-then-marks-eq0
returns-then-marks-eq0 c = search (mark_exits, rules)

pub overflow_sub-x : goal.overflow_sub-x
overflow_sub-x c = search (mark_exits, rules)

pub returns-then-locals-x : goal.returns-then-locals-x
returns-then-locals-x c = search (mark_exits, rules)

pub overflow_cast-x : goal.overflow_cast-x
overflow_cast-x c = search (mark_exits, rules)

pub is_set-requires : goal.is_set-requires
is_set-requires c = search (mark_exits, rules)

pub returns-then-is_set : goal.returns-then-is_set
returns-then-is_set c = search (mark_exits, rules)

pub frame_word-stamp-requires : goal.frame_word-stamp-requires
frame_word-stamp-requires c = search (mark_exits, rules)

pub overflow_add-x : goal.overflow_add-x
overflow_add-x c = search (mark_exits, rules)

pub put32-requires : goal.put32-requires
put32-requires c = search (mark_exits, rules)

pub overflow_add-x-2 : goal.overflow_add-x-2
overflow_add-x-2 c = search (mark_exits, rules)

pub put32-requires-2 : goal.put32-requires-2
put32-requires-2 c = search (mark_exits, rules)

pub returns : goal.returns
returns c = search mark_new
