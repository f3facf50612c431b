-- `run_state::lower_of` meets its contract.
use borrow.Author.Rules.{rules}
use Rattle.run_state.proofs.Lowest.{lower_exits}
use Rattle.run_state.proofs.lower_of.Goals as goal

pub returns-then-depth-eq0 : goal.returns-then-depth-eq0
returns-then-depth-eq0 c = search (lower_exits, rules)

pub overflow_sub-depth : goal.overflow_sub-depth
overflow_sub-depth c = search (lower_exits, rules)

pub block_word-below-requires : goal.block_word-below-requires
block_word-below-requires c = search (lower_exits, rules)

pub overflow_cast-result : goal.overflow_cast-result
overflow_cast-result c = search (lower_exits, rules)

pub returns : goal.returns
returns c = search (lower_exits, rules)
