-- `body_state::results_of` meets its contract.
use borrow.Author.Rules.{rules}
use Rattle.body_state.proofs.Answers.{answer_exits}
use Rattle.body_state.proofs.results_of.Goals as goal

pub frame_word-w-requires : goal.frame_word-w-requires
frame_word-w-requires c = search (answer_exits, rules)

pub returns-then-w-eq0 : goal.returns-then-w-eq0
returns-then-w-eq0 c = search (answer_exits, rules)

pub overflow_sub-result : goal.overflow_sub-result
overflow_sub-result c = search (answer_exits, rules)

pub overflow_cast-result : goal.overflow_cast-result
overflow_cast-result c = search (answer_exits, rules)

pub returns : goal.returns
returns c = search (answer_exits, rules)
