-- `run_blocks::open` meets its contract.
use borrow.Author.Rules.{rules}
use Rattle.run_blocks.proofs.Opening.{open_exits}
use Rattle.run_blocks.proofs.open.Goals as goal

pub returns-then-depth-ge-MOST_BLOCKS : goal.returns-then-depth-ge-MOST_BLOCKS
returns-then-depth-ge-MOST_BLOCKS c = search (open_exits, rules)

pub overflow_cast-word : goal.overflow_cast-word
overflow_cast-word c = search (open_exits, rules)

pub overflow_mul-word : goal.overflow_mul-word
overflow_mul-word c = search (open_exits, rules)

pub overflow_cast-below : goal.overflow_cast-below
overflow_cast-below c = search (open_exits, rules)

pub overflow_cast-below-2 : goal.overflow_cast-below-2
overflow_cast-below-2 c = search (open_exits, rules)

pub overflow_add-below : goal.overflow_add-below
overflow_add-below c = search (open_exits, rules)

pub put-requires : goal.put-requires
put-requires c = search (open_exits, rules)

pub overflow_add-word : goal.overflow_add-word
overflow_add-word c = search (open_exits, rules)

pub put-requires-2 : goal.put-requires-2
put-requires-2 c = search (open_exits, rules)

pub overflow_add-word-2 : goal.overflow_add-word-2
overflow_add-word-2 c = search (open_exits, rules)

pub put-requires-3 : goal.put-requires-3
put-requires-3 c = search (open_exits, rules)

pub overflow_cast-result : goal.overflow_cast-result
overflow_cast-result c = search (open_exits, rules)

pub overflow_add-result : goal.overflow_add-result
overflow_add-result c = search (open_exits, rules)

pub returns : goal.returns
returns c = search (open_exits, rules)
