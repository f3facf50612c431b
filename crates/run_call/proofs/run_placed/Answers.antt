-- `run_call::run_placed` meets its contract: the locals start at their defaults, and then it runs.
use borrow.Author.Rules.{rules}
use Rattle.run_call.proofs.Inner.{placed, may_run, may_start-locals}
use Rattle.run_call.proofs.run_placed.Goals as goal

pub start_locals-requires : goal.start_locals-requires
start_locals-requires c = search (may_start-locals, rules)

pub run_started-requires : goal.run_started-requires
run_started-requires c = search (may_run, rules)

pub returns : goal.returns
returns c = search (placed, rules)
