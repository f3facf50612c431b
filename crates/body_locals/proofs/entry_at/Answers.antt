-- `body_locals::entry_at` meets its contract: the sum of the locals is exact.
use Rattle.body_locals.proofs.OneEntry.{count_fits}
use Rattle.body_locals.proofs.entry_at.Goals as goal

pub overflow_add-before : goal.overflow_add-before
overflow_add-before c = count_fits c.args.types c.args.before c.args.s.now c.args.at c.in_ok-count.ensures c.requires
