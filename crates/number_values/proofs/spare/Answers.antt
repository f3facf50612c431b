-- `number_values::spare` meets its contract: one byte has none to spare, more are held against the weight of one less.
use borrow.Author.Rules.{rules}
use Rattle.number_values.proofs.Needed.{spare_exits}
use Rattle.number_values.proofs.spare.Goals as goal

pub returns-then-count-eq1 : goal.returns-then-count-eq1
returns-then-count-eq1 c = search (spare_exits, rules)

pub overflow_sub-count : goal.overflow_sub-count
overflow_sub-count c = search (spare_exits, rules)

pub sign_weight-less-requires : goal.sign_weight-less-requires
sign_weight-less-requires c = search (spare_exits, rules)

pub returns : goal.returns
returns c = search (spare_exits, rules)
