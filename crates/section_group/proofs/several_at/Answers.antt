-- `section_group::several_at` meets its contract: the count, then the definitions.
use Rattle.section_group.proofs.Ways.{several_refused, several_lent, several_reach_fits, several_got}
use Rattle.section_group.proofs.several_at.Goals as goal

pub overflow_add-first : goal.overflow_add-first
overflow_add-first c = several_reach_fits c.args.s.now c.args.at c.in_ok-n.ensures c.requires

pub entries_at-requires : goal.entries_at-requires
entries_at-requires c = several_lent c.args.s.now c.args.at c.in_ok-n.ensures c.requires

pub returns-in_err-n : goal.returns-in_err-n
returns-in_err-n c = several_refused c.args.s.now c.args.at c.args.first c.args.rows.now c.args.codes.now c.args.used c.in_err-n.ensures c.from_residual.ensures.1

pub returns : goal.returns
returns c = several_got c.args.s.now c.args.at c.in_ok-n.ensures c.args.first c.entries_at.ensures
