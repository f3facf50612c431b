-- `body_locals::fill` meets its contract: each turn writes the word once more.
use native.Mathlib.Omega.{arith}
use Rattle.body_locals.proofs.Filling.{filled_turn}
use Rattle.body_locals.proofs.fill.Goals as goal

pub loop-i-preserved : goal.loop-i-preserved
loop-i-preserved c = filled_turn c.loop-i.invariant c.requires (omega arith) c.put32.ensures
