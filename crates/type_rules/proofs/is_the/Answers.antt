-- `type_rules::is_the` meets its contract: a link names one type or none.
use borrow.Author.Rules.{rules}
use Rattle.type_rules.proofs.Clauses.{the_exits}
use Rattle.type_rules.proofs.is_the.Goals as goal

pub returns-in-Some : goal.returns-in-Some
returns-in-Some c = search (the_exits, rules)
