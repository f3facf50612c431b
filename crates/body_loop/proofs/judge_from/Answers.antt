-- `body_loop::judge_from` meets its contract: each lap takes at least one instruction from what the definition still has to judge.
use Rattle.body_loop.proofs.Looping.{going_out}
use Rattle.body_loop.proofs.judge_from.Goals as goal

pub returns : goal.returns
returns c = going_out c.loop.invariant c.loop-test.false
