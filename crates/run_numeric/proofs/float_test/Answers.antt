-- `run_numeric::float_test` meets its contract.
use borrow.Author.Rules.{rules}
use Rattle.run_numeric.proofs.Table.{rows, table_exits, other_exits}
use Rattle.run_numeric.proofs.float_test.Goals as goal

pub returns-in-91 : goal.returns-in-91
unfolding rows
returns-in-91 c = search (table_exits, rules)

pub returns-in-92 : goal.returns-in-92
unfolding rows
returns-in-92 c = search (table_exits, rules)

pub returns-in-93 : goal.returns-in-93
unfolding rows
returns-in-93 c = search (table_exits, rules)

pub returns-in-94 : goal.returns-in-94
unfolding rows
returns-in-94 c = search (table_exits, rules)

pub returns-in-95 : goal.returns-in-95
unfolding rows
returns-in-95 c = search (table_exits, rules)

pub returns-in-96 : goal.returns-in-96
unfolding rows
returns-in-96 c = search (table_exits, rules)

pub returns-in-97 : goal.returns-in-97
unfolding rows
returns-in-97 c = search (table_exits, rules)

pub returns-in-98 : goal.returns-in-98
unfolding rows
returns-in-98 c = search (table_exits, rules)

pub returns-in-99 : goal.returns-in-99
unfolding rows
returns-in-99 c = search (table_exits, rules)

pub returns-in-100 : goal.returns-in-100
unfolding rows
returns-in-100 c = search (table_exits, rules)

pub returns-in-101 : goal.returns-in-101
unfolding rows
returns-in-101 c = search (table_exits, rules)

pub returns-in-102 : goal.returns-in-102
unfolding rows
returns-in-102 c = search (table_exits, rules)

pub returns-in_default : goal.returns-in_default
returns-in_default c = search (other_exits, rules)
