-- `type_rules::clauses_agree` meets its contract: both clauses are asked.
use borrow.Author.Rules.{rules}
use Rattle.type_rules.proofs.Clauses.{agree_exits}
use Rattle.type_rules.proofs.clauses_agree.Goals as goal

pub returns-then-descriptor_agrees : goal.returns-then-descriptor_agrees
returns-then-descriptor_agrees c = search (agree_exits, rules)

pub returns-else-descriptor_agrees : goal.returns-else-descriptor_agrees
returns-else-descriptor_agrees c = search (agree_exits, rules)
