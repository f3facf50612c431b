-- `body_frames::enter` meets its contract.
use borrow.Author.Rules.{rules}
use Rattle.body_frames.proofs.Inside.{inside_exits}
use Rattle.body_frames.proofs.enter.Goals as goal

pub overflow_cast-m : goal.overflow_cast-m
overflow_cast-m c = search (inside_exits, rules)

pub overflow_add-m : goal.overflow_add-m
overflow_add-m c = search (inside_exits, rules)

pub put_own-requires : goal.put_own-requires
put_own-requires c = search (inside_exits, rules)

pub put_around-requires : goal.put_around-requires
put_around-requires c = search (inside_exits, rules)

pub overflow_add-result : goal.overflow_add-result
overflow_add-result c = search (inside_exits, rules)

pub overflow_add-result-2 : goal.overflow_add-result-2
overflow_add-result-2 c = search (inside_exits, rules)

pub returns : goal.returns
returns c = search (inside_exits, rules)
