-- `type_read::referent_at` meets its contract: the reference's code is made of its heap type's.
use borrow.Author.Rules.{rules}
use Rattle.type_read.proofs.Vals.{referent_exits}
use Rattle.type_read.proofs.referent_at.Goals as goal

pub returns-in_err-code : goal.returns-in_err-code
returns-in_err-code c = search (referent_exits, rules)

pub overflow_mul-result : goal.overflow_mul-result
overflow_mul-result c = search (referent_exits, rules)

pub overflow_add-result : goal.overflow_add-result
overflow_add-result c = search (referent_exits, rules)

pub returns-then-nullable : goal.returns-then-nullable
returns-then-nullable c = search (referent_exits, rules)

pub overflow_mul-result-2 : goal.overflow_mul-result-2
overflow_mul-result-2 c = search (referent_exits, rules)

pub overflow_add-result-2 : goal.overflow_add-result-2
overflow_add-result-2 c = search (referent_exits, rules)

pub returns : goal.returns
returns c = search (referent_exits, rules)
