-- `body_quick::within` meets its contract: a nop.
use borrow.Author.Rules.{rules}
use Rattle.body_quick.proofs.Arms.{arm_exits}
use Rattle.body_quick.proofs.within.Goals as goal

pub returns-in-1 : goal.returns-in-1
returns-in-1 c = search (arm_exits, rules)
