-- `type_rules::describes_earlier` meets its contract: the type described is compared with its own number.
use borrow.Author.Rules.{rules}
use Rattle.type_rules.proofs.Clauses.{struct_exits}
use Rattle.type_rules.proofs.describes_earlier.Goals as goal

pub returns-in-None : goal.returns-in-None
returns-in-None c = search (struct_exits, rules)

pub returns-in-Some : goal.returns-in-Some
returns-in-Some c = search (struct_exits, rules)
