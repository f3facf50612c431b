-- `body_push::push_gives` meets its contract.
use borrow.Author.Rules.{rules}
use Rattle.body_push.proofs.Exits.{give_exits}
use Rattle.body_push.proofs.push_gives.Goals as goal

pub overflow_sub-code : goal.overflow_sub-code
overflow_sub-code c = search (give_exits, rules)

pub overflow_add-code : goal.overflow_add-code
overflow_add-code c = search (give_exits, rules)

pub push-requires : goal.push-requires
push-requires c = search (give_exits, rules)

pub returns-then-gives-ne0 : goal.returns-then-gives-ne0
returns-then-gives-ne0 c = search (give_exits, rules)

pub returns-else-gives-ne0 : goal.returns-else-gives-ne0
returns-else-gives-ne0 c = search (give_exits, rules)
