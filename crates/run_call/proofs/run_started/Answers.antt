-- `run_call::run_started` meets its contract.
use borrow.Author.Rules.{rules}
use Rattle.run_call.proofs.Inner.{run_settled, may_settle, settle_exits}
use Rattle.run_call.proofs.run_started.Goals as goal

pub run_from-ended-requires : goal.run_from-ended-requires
run_from-ended-requires c = search (settle_exits, rules)

pub stage_of-stage-requires : goal.stage_of-stage-requires
stage_of-stage-requires c = search (settle_exits, rules)

pub settle-requires : goal.settle-requires
settle-requires c = search (may_settle, settle_exits, rules)

pub tell-requires : goal.tell-requires
tell-requires c = search (settle_exits, rules)

pub returns : goal.returns
returns c = search (run_settled, settle_exits, rules)
