-- `section_reader::ended_at` meets its contract: the groups, and the place after them is the end.
use Rattle.section_reader.proofs.Ending.{ended_refused, ended_over, ended_all}
use Rattle.section_reader.proofs.ended_at.Goals as goal

pub returns-in_err-all : goal.returns-in_err-all
returns-in_err-all c = ended_refused c.args.n c.in_err-all.ensures c.from_residual.ensures.1

pub returns-then-next-s : goal.returns-then-next-s
returns-then-next-s c = ended_all c.args.n c.in_ok-all.ensures c.if-next-s.true

pub returns : goal.returns
returns c = ended_over c.args.n c.in_ok-all.ensures c.if-next-s.false
