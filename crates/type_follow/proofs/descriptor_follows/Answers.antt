-- `type_follow::descriptor_follows` meets its contract: a supertype without descriptor allows either.
use borrow.Author.Rules.{rules}
use Rattle.type_follow.proofs.Following.{descriptor_exits}
use Rattle.type_follow.proofs.descriptor_follows.Goals as goal

pub returns-in_default : goal.returns-in_default
returns-in_default c = search (descriptor_exits, rules)

pub returns-in-None : goal.returns-in-None
returns-in-None c = search (descriptor_exits, rules)

pub returns-in-Some-descriptor : goal.returns-in-Some-descriptor
returns-in-Some-descriptor c = search (descriptor_exits, rules)
