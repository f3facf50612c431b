-- `type_follow::descriptor_under` meets its contract: the descriptor is asked for its supertype.
use borrow.Author.Rules.{rules}
use Rattle.type_follow.proofs.Following.{descriptor_exits}
use Rattle.type_follow.proofs.descriptor_under.Goals as goal

pub returns-in-None : goal.returns-in-None
returns-in-None c = search (descriptor_exits, rules)

pub returns-in-Some : goal.returns-in-Some
returns-in-Some c = search (descriptor_exits, rules)
