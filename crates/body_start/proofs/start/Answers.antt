-- `body_start::start` meets its contract.
use Rattle.body_start.proofs.Whole.{start_uncounted, may_start, start-counted}
use Rattle.body_start.proofs.start.Goals as goal

pub returns-in_err-n : goal.returns-in_err-n
returns-in_err-n c = start_uncounted c.in_err-n.ensures c.from_residual.ensures.1 c.args.types

pub start_at-requires : goal.start_at-requires
start_at-requires c = may_start c.in_ok-n.ensures c.requires

pub returns : goal.returns
returns c = start-counted c.in_ok-n.ensures c.args.types c.start_at.ensures
