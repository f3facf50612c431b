use borrow.Author.Rules.{rules}
use Rattle.body_quick_frames.proofs.Opens.{open_exits}
use Rattle.body_quick_frames.proofs.open.Goals as goal

pub overflow_add-next : goal.overflow_add-next
overflow_add-next c = search (open_exits, rules)

pub block_at-read-requires : goal.block_at-read-requires
block_at-read-requires c = search (open_exits, rules)

pub not_told-requires : goal.not_told-requires
not_told-requires c = search (open_exits, rules)

pub returns-then-n-eq0 : goal.returns-then-n-eq0
returns-then-n-eq0 c = search (open_exits, rules)

pub not_told-requires-then-depth-ge-MOST_BLOCKS : goal.not_told-requires-then-depth-ge-MOST_BLOCKS
not_told-requires-then-depth-ge-MOST_BLOCKS c = search (open_exits, rules)

pub returns-then-depth-ge-MOST_BLOCKS : goal.returns-then-depth-ge-MOST_BLOCKS
returns-then-depth-ge-MOST_BLOCKS c = search (open_exits, rules)

pub overflow_sub-height : goal.overflow_sub-height
overflow_sub-height c = search (open_exits, rules)

pub overflow_cast-check : goal.overflow_cast-check
overflow_cast-check c = search (open_exits, rules)

pub overflow_cast-check-2 : goal.overflow_cast-check-2
overflow_cast-check-2 c = search (open_exits, rules)

pub overflow_cast-check-3 : goal.overflow_cast-check-3
overflow_cast-check-3 c = search (open_exits, rules)

pub overflow_cast-result : goal.overflow_cast-result
overflow_cast-result c = search (open_exits, rules)

pub overflow_cast-at : goal.overflow_cast-at
overflow_cast-at c = search (open_exits, rules)

pub enter-requires : goal.enter-requires
enter-requires c = search (open_exits, rules)

pub overflow_add-result : goal.overflow_add-result
overflow_add-result c = search (open_exits, rules)

pub returns : goal.returns
returns c = search (open_exits, rules)
