-- `run_blocks::close` meets its contract.
use borrow.Author.Rules.{rules}
use Rattle.run_blocks.proofs.Ending.{close_exits}
use Rattle.run_blocks.proofs.close.Goals as goal

pub finish-requires : goal.finish-requires
finish-requires c = search (close_exits, rules)

pub returns-then-depth-eq0 : goal.returns-then-depth-eq0
returns-then-depth-eq0 c = search (close_exits, rules)

pub overflow_sub-depth : goal.overflow_sub-depth
overflow_sub-depth c = search (close_exits, rules)

pub lower_of-lower-requires : goal.lower_of-lower-requires
lower_of-lower-requires c = search (close_exits, rules)

pub overflow_sub-result : goal.overflow_sub-result
overflow_sub-result c = search (close_exits, rules)

pub overflow_add-result : goal.overflow_add-result
overflow_add-result c = search (close_exits, rules)

pub overflow_sub-result-2 : goal.overflow_sub-result-2
overflow_sub-result-2 c = search (close_exits, rules)

pub returns : goal.returns
returns c = search (close_exits, rules)
