-- `type_rules::described_agrees` meets its contract: the type described is asked for its descriptor.
use borrow.Author.Rules.{rules}
use Rattle.type_rules.proofs.Clauses.{agree_exits}
use Rattle.type_rules.proofs.described_agrees.Goals as goal

pub returns-in-None : goal.returns-in-None
returns-in-None c = search (agree_exits, rules)

pub returns-in-Some : goal.returns-in-Some
returns-in-Some c = search (agree_exits, rules)
