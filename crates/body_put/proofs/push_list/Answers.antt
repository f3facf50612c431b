-- `body_put::push_list` meets its contract: each turn puts the next type on top.
use native.Mathlib.Omega.{arith}
use Rattle.body_put.proofs.OnTop.{on_turn}
use Rattle.body_put.proofs.push_list.Goals as goal

pub loop-i-preserved : goal.loop-i-preserved
loop-i-preserved c = on_turn c.loop-i.invariant (omega (arith, c.length_of-i-end.ensures.is)) c.code_of-code.ensures c.push.ensures
