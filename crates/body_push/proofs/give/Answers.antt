-- `body_push::give` meets its contract.
use borrow.Author.Rules.{rules}
use Rattle.body_push.proofs.Exits.{give_exits, give_all, space_back, space_gives}
use Rattle.body_push.proofs.give.Goals as goal

pub back_length-n-requires : goal.back_length-n-requires
back_length-n-requires c = search (give_exits, rules)

pub gives_length-g-requires : goal.gives_length-g-requires
gives_length-g-requires c = search (give_exits, rules)

pub overflow_cast-last-2 : goal.overflow_cast-last-2
overflow_cast-last-2 c = search (give_exits, rules)

pub overflow_add-last : goal.overflow_add-last
overflow_add-last c = search (give_exits, rules)

pub overflow_cast-top : goal.overflow_cast-top
overflow_cast-top c = search (give_exits, rules)

pub overflow_add-top : goal.overflow_add-top
overflow_add-top c = search (give_exits, rules)

pub overflow_add-base : goal.overflow_add-base
overflow_add-base c = search (give_exits, rules)

pub returns-then-base-top-gt-MOST_OPERANDS : goal.returns-then-base-top-gt-MOST_OPERANDS
returns-then-base-top-gt-MOST_OPERANDS c = search (give_exits, rules)

pub push_back-requires : goal.push_back-requires
push_back-requires c = search space_back

pub overflow_cast-last-3 : goal.overflow_cast-last-3
overflow_cast-last-3 c = search (give_exits, rules)

pub push_gives-requires : goal.push_gives-requires
push_gives-requires c = search space_gives

pub overflow_cast-result : goal.overflow_cast-result
overflow_cast-result c = search (give_exits, rules)

pub returns : goal.returns
returns c = search give_all
