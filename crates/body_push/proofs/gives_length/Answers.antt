-- `body_push::gives_length` meets its contract.
use borrow.Author.Rules.{rules}
use Rattle.body_push.proofs.Exits.{give_exits}
use Rattle.body_push.proofs.gives_length.Goals as goal

pub returns-then-gives-eq0 : goal.returns-then-gives-eq0
returns-then-gives-eq0 c = search (give_exits, rules)

pub returns-else-gives-eq0 : goal.returns-else-gives-eq0
returns-else-gives-eq0 c = search (give_exits, rules)
