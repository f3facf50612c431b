-- `section_reader::counted_at` meets its contract: the count, then the groups.
use Rattle.section_reader.proofs.Ending.{counted_refused, counted-lent, counted_got}
use Rattle.section_reader.proofs.counted_at.Goals as goal

pub ended_at-requires : goal.ended_at-requires
ended_at-requires c = counted-lent c.args.s.now c.in_ok-n.ensures c.requires

pub returns-in_err-n : goal.returns-in_err-n
returns-in_err-n c = counted_refused c.args.s.now c.args.before c.args.base c.args.rows.now c.args.codes.now c.in_err-n.ensures c.from_residual.ensures.1

pub returns : goal.returns
returns c = counted_got c.args.s.now c.in_ok-n.ensures c.ended_at.ensures
