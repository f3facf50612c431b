-- `body_frames::result_reached` meets its contract.
use borrow.Author.Rules.{rules}
use Rattle.body_frames.proofs.Inside.{inside_exits}
use Rattle.body_frames.proofs.result_reached.Goals as goal

pub returns-then-res-eq0 : goal.returns-then-res-eq0
returns-then-res-eq0 c = search (inside_exits, rules)

pub overflow_sub-res : goal.overflow_sub-res
overflow_sub-res c = search (inside_exits, rules)

pub val_in_reach-requires : goal.val_in_reach-requires
val_in_reach-requires c = search (inside_exits, rules)

pub returns : goal.returns
returns c = search (inside_exits, rules)
