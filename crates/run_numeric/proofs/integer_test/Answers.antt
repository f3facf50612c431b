-- `run_numeric::integer_test` meets its contract.
use borrow.Author.Rules.{rules}
use Rattle.run_numeric.proofs.Table.{rows, table_exits, other_exits}
use Rattle.run_numeric.proofs.integer_test.Goals as goal

pub returns-in-69 : goal.returns-in-69
unfolding rows
returns-in-69 c = search (table_exits, rules)

pub returns-in-70 : goal.returns-in-70
unfolding rows
returns-in-70 c = search (table_exits, rules)

pub returns-in-71 : goal.returns-in-71
unfolding rows
returns-in-71 c = search (table_exits, rules)

pub returns-in-72 : goal.returns-in-72
unfolding rows
returns-in-72 c = search (table_exits, rules)

pub returns-in-73 : goal.returns-in-73
unfolding rows
returns-in-73 c = search (table_exits, rules)

pub returns-in-74 : goal.returns-in-74
unfolding rows
returns-in-74 c = search (table_exits, rules)

pub returns-in-75 : goal.returns-in-75
unfolding rows
returns-in-75 c = search (table_exits, rules)

pub returns-in-76 : goal.returns-in-76
unfolding rows
returns-in-76 c = search (table_exits, rules)

pub returns-in-77 : goal.returns-in-77
unfolding rows
returns-in-77 c = search (table_exits, rules)

pub returns-in-78 : goal.returns-in-78
unfolding rows
returns-in-78 c = search (table_exits, rules)

pub returns-in-79 : goal.returns-in-79
unfolding rows
returns-in-79 c = search (table_exits, rules)

pub returns-in-80 : goal.returns-in-80
unfolding rows
returns-in-80 c = search (table_exits, rules)

pub returns-in-81 : goal.returns-in-81
unfolding rows
returns-in-81 c = search (table_exits, rules)

pub returns-in-82 : goal.returns-in-82
unfolding rows
returns-in-82 c = search (table_exits, rules)

pub returns-in-83 : goal.returns-in-83
unfolding rows
returns-in-83 c = search (table_exits, rules)

pub returns-in-84 : goal.returns-in-84
unfolding rows
returns-in-84 c = search (table_exits, rules)

pub returns-in-85 : goal.returns-in-85
unfolding rows
returns-in-85 c = search (table_exits, rules)

pub returns-in-86 : goal.returns-in-86
unfolding rows
returns-in-86 c = search (table_exits, rules)

pub returns-in-87 : goal.returns-in-87
unfolding rows
returns-in-87 c = search (table_exits, rules)

pub returns-in-88 : goal.returns-in-88
unfolding rows
returns-in-88 c = search (table_exits, rules)

pub returns-in-89 : goal.returns-in-89
unfolding rows
returns-in-89 c = search (table_exits, rules)

pub returns-in-90 : goal.returns-in-90
unfolding rows
returns-in-90 c = search (table_exits, rules)

pub returns-in_default : goal.returns-in_default
returns-in_default c = search (other_exits, rules)
