-- `type_chain::put_depths` meets its contract: each turn puts one, from those before.
use borrow.Author.Rules.{rules}
use Rattle.type_chain.proofs.Depths.{depths_last, depths_turn}
use Rattle.type_chain.proofs.put_depths.Goals as goal

pub loop-x-preserved : goal.loop-x-preserved
loop-x-preserved c = search (depths_turn, rules)

pub returns : goal.returns
returns c = search (depths_last, rules)
