-- `body_frames::open` meets its contract.
use borrow.Author.Rules.{rules}
use Rattle.body_frames.proofs.Inside.{open_exits}
use Rattle.body_frames.proofs.open.Goals as goal

pub result_reached-reached-requires : goal.result_reached-reached-requires
result_reached-reached-requires c = search (open_exits, rules)

pub returns-then-not-reached : goal.returns-then-not-reached
returns-then-not-reached c = search (open_exits, rules)

pub returns-then-depth-ge-MOST_BLOCKS : goal.returns-then-depth-ge-MOST_BLOCKS
returns-then-depth-ge-MOST_BLOCKS c = search (open_exits, rules)

pub overflow_cast-res : goal.overflow_cast-res
overflow_cast-res c = search (open_exits, rules)

pub overflow_cast-at : goal.overflow_cast-at
overflow_cast-at c = search (open_exits, rules)

pub enter-inner-requires : goal.enter-inner-requires
enter-inner-requires c = search (open_exits, rules)

pub returns : goal.returns
returns c = search (open_exits, rules)
