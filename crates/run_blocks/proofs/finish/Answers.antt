-- `run_blocks::finish` meets its contract.
use borrow.Author.Rules.{rules}
use Rattle.run_blocks.proofs.Ending.{finish_exits}
use Rattle.run_blocks.proofs.finish.Goals as goal

pub returns-then-left-results : goal.returns-then-left-results
returns-then-left-results c = search (finish_exits, rules)

pub overflow_add-from : goal.overflow_add-from
overflow_add-from c = search (finish_exits, rules)

pub move_down-requires : goal.move_down-requires
move_down-requires c = search (finish_exits, rules)

pub returns : goal.returns
returns c = search (finish_exits, rules)
