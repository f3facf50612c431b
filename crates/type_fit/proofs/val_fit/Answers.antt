-- `type_fit::val_fit` meets its contract: a type fits itself, and no number type fits another.
use borrow.Author.Rules.{rules}
use Rattle.type_fit.proofs.Same.{val_exits}
use Rattle.type_fit.proofs.val_fit.Goals as goal

pub returns-then-a-b : goal.returns-then-a-b
returns-then-a-b c = search (val_exits, rules)

pub returns-in-Number : goal.returns-in-Number
returns-in-Number c = search (val_exits, rules)

pub returns-in-Ref : goal.returns-in-Ref
returns-in-Ref c = search (val_exits, rules)
