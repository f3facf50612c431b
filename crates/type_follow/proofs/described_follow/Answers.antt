-- `type_follow::described_follow` meets its contract: the four cases are those of the rule.
use borrow.Author.Rules.{rules}
use Rattle.type_follow.proofs.Following.{describes_exits}
use Rattle.type_follow.proofs.described_follow.Goals as goal

pub returns-in-Some-b-2 : goal.returns-in-Some-b-2
returns-in-Some-b-2 c = search (describes_exits, rules)
