-- `type_follow::describes_follows` meets its contract: both clauses are read, and the rule asks for the same.
use borrow.Author.Rules.{rules}
use Rattle.type_follow.proofs.Following.{describes_exits}
use Rattle.type_follow.proofs.describes_follows.Goals as goal

pub returns-in-None : goal.returns-in-None
returns-in-None c = search (describes_exits, rules)

pub returns-in-Some : goal.returns-in-Some
returns-in-Some c = search (describes_exits, rules)
