-- `body_push::back_length` meets its contract.
use borrow.Author.Rules.{rules}
use Rattle.body_push.proofs.Exits.{give_exits}
use Rattle.body_push.proofs.back_length.Goals as goal

pub length_of-requires : goal.length_of-requires
length_of-requires c = search (give_exits, rules)

pub returns-then-back : goal.returns-then-back
returns-then-back c = search (give_exits, rules)

pub returns-else-back : goal.returns-else-back
returns-else-back c = search (give_exits, rules)
