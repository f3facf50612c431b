-- `type_rules::descriptor_agrees` meets its contract: the descriptor is asked what it describes.
use borrow.Author.Rules.{rules}
use Rattle.type_rules.proofs.Clauses.{agree_exits}
use Rattle.type_rules.proofs.descriptor_agrees.Goals as goal

pub returns-in-None : goal.returns-in-None
returns-in-None c = search (agree_exits, rules)

pub returns-in-Some : goal.returns-in-Some
returns-in-Some c = search (agree_exits, rules)
