-- `run_numeric::result` meets its contract.
use borrow.Author.Rules.{rules}
use Rattle.run_numeric.proofs.Table.{rows, table_exits, other_exits}
use Rattle.run_numeric.proofs.result.Goals as goal

pub returns-in-106 : goal.returns-in-106
unfolding rows
returns-in-106 c = search (table_exits, rules)

pub returns-in-107 : goal.returns-in-107
unfolding rows
returns-in-107 c = search (table_exits, rules)

pub returns-in-124 : goal.returns-in-124
unfolding rows
returns-in-124 c = search (table_exits, rules)

pub returns-in-125 : goal.returns-in-125
unfolding rows
returns-in-125 c = search (table_exits, rules)

pub returns-in-140 : goal.returns-in-140
unfolding rows
returns-in-140 c = search (table_exits, rules)

pub returns-in-146 : goal.returns-in-146
unfolding rows
returns-in-146 c = search (table_exits, rules)

pub returns-in-147 : goal.returns-in-147
unfolding rows
returns-in-147 c = search (table_exits, rules)

pub returns-in-148 : goal.returns-in-148
unfolding rows
returns-in-148 c = search (table_exits, rules)

pub returns-in-149 : goal.returns-in-149
unfolding rows
returns-in-149 c = search (table_exits, rules)

pub returns-in-154 : goal.returns-in-154
unfolding rows
returns-in-154 c = search (table_exits, rules)

pub returns-in-160 : goal.returns-in-160
unfolding rows
returns-in-160 c = search (table_exits, rules)

pub returns-in-161 : goal.returns-in-161
unfolding rows
returns-in-161 c = search (table_exits, rules)

pub returns-in-162 : goal.returns-in-162
unfolding rows
returns-in-162 c = search (table_exits, rules)

pub returns-in-163 : goal.returns-in-163
unfolding rows
returns-in-163 c = search (table_exits, rules)

pub returns-in_default : goal.returns-in_default
returns-in_default c = search (other_exits, rules)
