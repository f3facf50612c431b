use borrow.Author.Rules.{rules}
use Rattle.body_quick_new.proofs.Makes.{filled_exits}
use Rattle.body_quick_new.proofs.filled.Goals as goal

pub all_default-requires : goal.all_default-requires
all_default-requires c = search (filled_exits, rules)

pub not_told-requires : goal.not_told-requires
not_told-requires c = search (filled_exits, rules)

pub returns-then-not-all_default : goal.returns-then-not-all_default
returns-then-not-all_default c = search (filled_exits, rules)

pub exact_code-made-requires : goal.exact_code-made-requires
exact_code-made-requires c = search (filled_exits, rules)

pub overflow_add-w : goal.overflow_add-w
overflow_add-w c = search (filled_exits, rules)

pub put-requires : goal.put-requires
put-requires c = search (filled_exits, rules)

pub returns : goal.returns
returns c = search (filled_exits, rules)
