-- `body_state::is_set` meets its contract.
use borrow.Author.Rules.{rules}
use Rattle.body_state.proofs.Answers.{answer_exits}
use Rattle.body_state.proofs.is_set.Goals as goal

pub overflow_add-i : goal.overflow_add-i
overflow_add-i c = search (answer_exits, rules)

pub word32-n-requires : goal.word32-n-requires
word32-n-requires c = search (answer_exits, rules)

pub returns-then-n-eq0 : goal.returns-then-n-eq0
returns-then-n-eq0 c = search (answer_exits, rules)

pub returns-then-m-n : goal.returns-then-m-n
returns-then-m-n c = search (answer_exits, rules)

pub overflow_cast-n : goal.overflow_cast-n
overflow_cast-n c = search (answer_exits, rules)

pub frame_word-stamp-requires : goal.frame_word-stamp-requires
frame_word-stamp-requires c = search (answer_exits, rules)

pub overflow_add-i-2 : goal.overflow_add-i-2
overflow_add-i-2 c = search (answer_exits, rules)

pub word32-kept-requires : goal.word32-kept-requires
word32-kept-requires c = search (answer_exits, rules)

pub returns : goal.returns
returns c = search (answer_exits, rules)
