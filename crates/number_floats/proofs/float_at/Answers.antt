-- `number_floats::float_at` meets its contract: the loop's invariant is `Lower` of proofs/Floats.antt.
use native.Mathlib.Omega.{arith}
use Rattle.number_floats.proofs.Floats.{float_turn}
use Rattle.number_floats.proofs.float_at.Goals as goal

pub loop-i-preserved : goal.loop-i-preserved
loop-i-preserved c = float_turn c.loop-i.invariant c.requires (omega arith) (omega arith) (omega arith) c.type_inv.s
