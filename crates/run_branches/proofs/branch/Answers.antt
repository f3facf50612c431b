-- `run_branches::branch` meets its contract.
use borrow.Author.Rules.{rules}
use Rattle.run_branches.proofs.Branching.{branch_exits}
use Rattle.run_branches.proofs.branch.Goals as goal

pub overflow_cast-depth : goal.overflow_cast-depth
overflow_cast-depth c = search (branch_exits, rules)

pub returns-then-depth-label : goal.returns-then-depth-label
returns-then-depth-label c = search (branch_exits, rules)

pub overflow_cast-depth-2 : goal.overflow_cast-depth-2
overflow_cast-depth-2 c = search (branch_exits, rules)

pub finish-requires : goal.finish-requires
finish-requires c = search (branch_exits, rules)

pub returns-then-depth-label-2 : goal.returns-then-depth-label-2
returns-then-depth-label-2 c = search (branch_exits, rules)

pub overflow_sub-d : goal.overflow_sub-d
overflow_sub-d c = search (branch_exits, rules)

pub overflow_cast-d : goal.overflow_cast-d
overflow_cast-d c = search (branch_exits, rules)

pub overflow_sub-d-2 : goal.overflow_sub-d-2
overflow_sub-d-2 c = search (branch_exits, rules)

pub branch_to-requires : goal.branch_to-requires
branch_to-requires c = search (branch_exits, rules)

pub returns : goal.returns
returns c = search (branch_exits, rules)
