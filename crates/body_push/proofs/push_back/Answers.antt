-- `body_push::push_back` meets its contract.
use borrow.Author.Rules.{rules}
use Rattle.body_push.proofs.Exits.{give_exits}
use Rattle.body_push.proofs.push_back.Goals as goal

pub push_list-requires : goal.push_list-requires
push_list-requires c = search (give_exits, rules)

pub returns-then-back : goal.returns-then-back
returns-then-back c = search (give_exits, rules)

pub returns-else-back : goal.returns-else-back
returns-else-back c = search (give_exits, rules)
