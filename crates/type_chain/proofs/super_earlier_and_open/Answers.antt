-- `type_chain::super_earlier_and_open` meets its contract: the cases are those of the rule: no supertype, one, more.
use borrow.Author.Rules.{rules}
use Rattle.type_chain.proofs.Supers.{super_exits}
use Rattle.type_chain.proofs.super_earlier_and_open.Goals as goal

pub returns-in-Nothing : goal.returns-in-Nothing
returns-in-Nothing c = search (super_exits, rules)

pub returns-then-p-x : goal.returns-then-p-x
returns-then-p-x c = search (super_exits, rules)

pub returns-else-p-x : goal.returns-else-p-x
returns-else-p-x c = search (super_exits, rules)

pub returns-in-Two : goal.returns-in-Two
returns-in-Two c = search (super_exits, rules)
