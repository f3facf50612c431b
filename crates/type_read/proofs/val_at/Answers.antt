-- `type_read::val_at` meets its contract: a number by its byte, else a reference.
use borrow.Author.Rules.{rules}
use Rattle.number_bytes.proofs.Laws.{next_fits}
use Rattle.type_read.proofs.Vals.{val_exits}
use Rattle.type_read.proofs.val_at.Goals as goal

pub returns-in_default : goal.returns-in_default
returns-in_default c = search (val_exits, next_fits, rules)

pub overflow_add-at : goal.overflow_add-at
overflow_add-at c = search (val_exits, next_fits, rules)

pub returns-in_default-named : goal.returns-in_default-named
returns-in_default-named c = search (val_exits, next_fits, rules)

pub overflow_add-result : goal.overflow_add-result
overflow_add-result c = search (val_exits, next_fits, rules)

pub returns : goal.returns
returns c = search (val_exits, next_fits, rules)
