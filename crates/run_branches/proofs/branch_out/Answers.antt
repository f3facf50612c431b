-- `run_branches::branch_out` meets its contract.
use borrow.Author.Rules.{rules}
use Rattle.run_branches.proofs.Outward.{out_exits}
use Rattle.run_branches.proofs.branch_out.Goals as goal

pub returns-then-left-takes : goal.returns-then-left-takes
returns-then-left-takes c = search (out_exits, rules)

pub block_word-place-requires : goal.block_word-place-requires
block_word-place-requires c = search (out_exits, rules)

pub block_word-below-requires : goal.block_word-below-requires
block_word-below-requires c = search (out_exits, rules)

pub lower_of-lower-requires : goal.lower_of-lower-requires
lower_of-lower-requires c = search (out_exits, rules)

pub word-to-requires : goal.word-to-requires
word-to-requires c = search (out_exits, rules)

pub overflow_add-from : goal.overflow_add-from
overflow_add-from c = search (out_exits, rules)

pub overflow_cast-below : goal.overflow_cast-below
overflow_cast-below c = search (out_exits, rules)

pub move_down-requires : goal.move_down-requires
move_down-requires c = search (out_exits, rules)

pub overflow_cast-result : goal.overflow_cast-result
overflow_cast-result c = search (out_exits, rules)

pub overflow_sub-result : goal.overflow_sub-result
overflow_sub-result c = search (out_exits, rules)

pub overflow_add-result : goal.overflow_add-result
overflow_add-result c = search (out_exits, rules)

pub returns : goal.returns
returns c = search (out_exits, rules)
