use borrow.Author.Rules.{rules}
use Rattle.body_quick_frames.proofs.Closes.{close_exits}
use Rattle.body_quick_frames.proofs.close.Goals as goal

pub not_told-requires : goal.not_told-requires
not_told-requires c = search (close_exits, rules)

pub returns-then-depth-eq0 : goal.returns-then-depth-eq0
returns-then-depth-eq0 c = search (close_exits, rules)

pub overflow_add-k : goal.overflow_add-k
overflow_add-k c = search (close_exits, rules)

pub overflow_cast-m : goal.overflow_cast-m
overflow_cast-m c = search (close_exits, rules)

pub frame_word-w-requires : goal.frame_word-w-requires
frame_word-w-requires c = search (close_exits, rules)

pub frame_word-outer-requires : goal.frame_word-outer-requires
frame_word-outer-requires c = search (close_exits, rules)

pub frame_word-height-requires : goal.frame_word-height-requires
frame_word-height-requires c = search (close_exits, rules)

pub frame_word-unknowns-requires : goal.frame_word-unknowns-requires
frame_word-unknowns-requires c = search (close_exits, rules)

pub overflow_add-below : goal.overflow_add-below
overflow_add-below c = search (close_exits, rules)

pub flag_of-dead-requires : goal.flag_of-dead-requires
flag_of-dead-requires c = search (close_exits, rules)

pub overflow_sub-result : goal.overflow_sub-result
overflow_sub-result c = search (close_exits, rules)

pub returns-then-top-base : goal.returns-then-top-base
returns-then-top-base c = search (close_exits, rules)

pub not_told-requires-then-w-eq0 : goal.not_told-requires-then-w-eq0
not_told-requires-then-w-eq0 c = search (close_exits, rules)

pub returns-then-w-eq0 : goal.returns-then-w-eq0
returns-then-w-eq0 c = search (close_exits, rules)

pub end_with-requires : goal.end_with-requires
end_with-requires c = search (close_exits, rules)

pub returns : goal.returns
returns c = search (close_exits, rules)
