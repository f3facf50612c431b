-- `body_start::start_at` meets its contract.
use Rattle.body_start.proofs.Whole.{start_stopped, count_fits, may_mark, start-done}
use Rattle.body_start.proofs.start_at.Goals as goal

pub returns-in_err-count : goal.returns-in_err-count
returns-in_err-count c = start_stopped c.in_err-count.ensures c.put_parameters.ensures c.from_residual.ensures.1

pub mark_start-requires : goal.mark_start-requires
mark_start-requires c = may_mark c.in_ok-count.ensures c.put_parameters.ensures c.requires

pub overflow_cast-result : goal.overflow_cast-result
overflow_cast-result c = count_fits c.in_ok-count.ensures c.put_parameters.ensures c.requires

pub returns : goal.returns
returns c = start-done c.in_ok-count.ensures c.put_parameters.ensures c.requires c.mark_start.ensures
