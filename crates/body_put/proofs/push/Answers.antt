-- `body_put::push` meets its contract: one word on top.
use Rattle.body_put.proofs.OnTop.{pushed_one}
use Rattle.body_put.proofs.push.Goals as goal

pub returns : goal.returns
returns c = pushed_one c.args.o c.put32.ensures c.requires
