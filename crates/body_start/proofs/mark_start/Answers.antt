-- `body_start::mark_start` meets its contract: each turn writes one mark more.
use Rattle.body_start.proofs.Marking.{marked_turn}
use Rattle.body_start.proofs.mark_start.Goals as goal

pub loop-i-preserved : goal.loop-i-preserved
loop-i-preserved c = marked_turn c.loop-i.invariant c.start_mark-mark.ensures c.put32.ensures c.loop-i-test.true c.requires
