-- `body_plan_numbers::numeric` meets its contract: what the table's row says is wanted and given.
use borrow.Author.Rules.{rules}
use Rattle.body_plan_numbers.proofs.NumberPlans.{numeric_exits}
use Rattle.body_plan_numbers.proofs.numeric.Goals as goal

pub numeric_row-row-requires : goal.numeric_row-row-requires
numeric_row-row-requires c = search (numeric_exits, rules)

pub returns-then-operands-eq0 : goal.returns-then-operands-eq0
returns-then-operands-eq0 c = search (numeric_exits, rules)

pub overflow_add-wanted : goal.overflow_add-wanted
overflow_add-wanted c = search (numeric_exits, rules)

pub overflow_add-given : goal.overflow_add-given
overflow_add-given c = search (numeric_exits, rules)

pub takes-requires : goal.takes-requires
takes-requires c = search (numeric_exits, rules)

pub returns-then-operands-eq1 : goal.returns-then-operands-eq1
returns-then-operands-eq1 c = search (numeric_exits, rules)

pub takes-requires-2 : goal.takes-requires-2
takes-requires-2 c = search (numeric_exits, rules)

pub returns : goal.returns
returns c = search (numeric_exits, rules)
