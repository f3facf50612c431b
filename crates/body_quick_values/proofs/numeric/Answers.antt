use borrow.Author.Rules.{rules}
use Rattle.body_quick_values.proofs.Numerics.{numeric_exits}
use Rattle.body_quick_values.proofs.numeric.Goals as goal

pub overflow_cast-b : goal.overflow_cast-b
overflow_cast-b c = search (numeric_exits, rules)

pub numeric_row-row-requires : goal.numeric_row-row-requires
numeric_row-row-requires c = search (numeric_exits, rules)

pub not_told-requires : goal.not_told-requires
not_told-requires c = search (numeric_exits, rules)

pub returns-then-operands-eq0 : goal.returns-then-operands-eq0
returns-then-operands-eq0 c = search (numeric_exits, rules)

pub overflow_add-w : goal.overflow_add-w
overflow_add-w c = search (numeric_exits, rules)

pub overflow_add-v : goal.overflow_add-v
overflow_add-v c = search (numeric_exits, rules)

pub taken_number-t-requires : goal.taken_number-t-requires
taken_number-t-requires c = search (numeric_exits, rules)

pub not_told-requires-then-t-eq0 : goal.not_told-requires-then-t-eq0
not_told-requires-then-t-eq0 c = search (numeric_exits, rules)

pub returns-then-t-eq0 : goal.returns-then-t-eq0
returns-then-t-eq0 c = search (numeric_exits, rules)

pub overflow_sub-one : goal.overflow_sub-one
overflow_sub-one c = search (numeric_exits, rules)

pub put-requires : goal.put-requires
put-requires c = search (numeric_exits, rules)

pub returns-then-operands-eq1 : goal.returns-then-operands-eq1
returns-then-operands-eq1 c = search (numeric_exits, rules)

pub taken_number-u-requires : goal.taken_number-u-requires
taken_number-u-requires c = search (numeric_exits, rules)

pub not_told-requires-then-u-eq0 : goal.not_told-requires-then-u-eq0
not_told-requires-then-u-eq0 c = search (numeric_exits, rules)

pub returns-then-u-eq0 : goal.returns-then-u-eq0
returns-then-u-eq0 c = search (numeric_exits, rules)

pub overflow_sub-two : goal.overflow_sub-two
overflow_sub-two c = search (numeric_exits, rules)

pub put-requires-2 : goal.put-requires-2
put-requires-2 c = search (numeric_exits, rules)

pub returns : goal.returns
returns c = search (numeric_exits, rules)
