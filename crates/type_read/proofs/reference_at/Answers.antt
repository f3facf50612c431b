-- `type_read::reference_at` meets its contract: 63, 64 or an abstract code, by the byte.
use borrow.Author.Rules.{rules}
use Rattle.type_read.proofs.Vals.{reference_exits}
use Rattle.type_read.proofs.reference_at.Goals as goal

pub returns-then-b-eq99 : goal.returns-then-b-eq99
returns-then-b-eq99 c = search (reference_exits, rules)

pub returns-then-b-eq100 : goal.returns-then-b-eq100
returns-then-b-eq100 c = search (reference_exits, rules)

pub returns-in_default : goal.returns-in_default
returns-in_default c = search (reference_exits, rules)

pub overflow_mul-result : goal.overflow_mul-result
overflow_mul-result c = search (reference_exits, rules)

pub overflow_add-result : goal.overflow_add-result
overflow_add-result c = search (reference_exits, rules)

pub returns : goal.returns
returns c = search (reference_exits, rules)
