-- `body_end::step_out` meets its contract.
use borrow.Author.Rules.{rules}
use Rattle.body_end.proofs.Ending.{end_exits}
use Rattle.body_end.proofs.step_out.Goals as goal

pub frame_word-base-requires : goal.frame_word-base-requires
frame_word-base-requires c = search (end_exits, rules)

pub overflow_cast-base : goal.overflow_cast-base
overflow_cast-base c = search (end_exits, rules)

pub frame_word-height-requires : goal.frame_word-height-requires
frame_word-height-requires c = search (end_exits, rules)

pub overflow_cast-height : goal.overflow_cast-height
overflow_cast-height c = search (end_exits, rules)

pub frame_word-dead-requires : goal.frame_word-dead-requires
frame_word-dead-requires c = search (end_exits, rules)

pub give-given-requires : goal.give-given-requires
give-given-requires c = search (end_exits, rules)

pub enum_told-1 : goal.enum_told-1
enum_told-1 c = search (end_exits, rules)

pub enum_known-given : goal.enum_known-given
enum_known-given c = search (end_exits, rules)

pub overflow_sub-result : goal.overflow_sub-result
overflow_sub-result c = search (end_exits, rules)

pub returns-in-None : goal.returns-in-None
returns-in-None c = search (end_exits, rules)

pub returns-in-Some : goal.returns-in-Some
returns-in-Some c = search (end_exits, rules)
