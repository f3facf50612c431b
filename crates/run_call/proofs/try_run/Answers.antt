-- `run_call::try_run` meets its contract: each part is lent its own memory.
use borrow.Author.Rules.{rules}
use Rattle.run_call.proofs.Outer.{tried_whole, may_wait}
use Rattle.run_call.proofs.try_run.Goals as goal

pub run_prepared-ran-requires : goal.run_prepared-ran-requires
run_prepared-ran-requires c = search (may_wait, rules)

pub returns : goal.returns
returns c = search (tried_whole, rules)
