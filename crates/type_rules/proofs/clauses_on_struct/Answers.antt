-- `type_rules::clauses_on_struct` meets its contract: a struct may have clauses, another form neither.
use borrow.Author.Rules.{rules}
use Rattle.type_rules.proofs.Clauses.{struct_exits}
use Rattle.type_rules.proofs.clauses_on_struct.Goals as goal

pub returns-then-is_struct : goal.returns-then-is_struct
returns-then-is_struct c = search (struct_exits, rules)

pub returns-in_default : goal.returns-in_default
returns-in_default c = search (struct_exits, rules)

pub returns-in-None-descriptor : goal.returns-in-None-descriptor
returns-in-None-descriptor c = search (struct_exits, rules)

pub returns-in-Some : goal.returns-in-Some
returns-in-Some c = search (struct_exits, rules)
