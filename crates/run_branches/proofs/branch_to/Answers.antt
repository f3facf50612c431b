-- `run_branches::branch_to` meets its contract.
use borrow.Author.Rules.{rules}
use Rattle.run_branches.proofs.Labels.{to_exits}
use Rattle.run_branches.proofs.branch_to.Goals as goal

pub block_word-place-requires : goal.block_word-place-requires
block_word-place-requires c = search (to_exits, rules)

pub instruction_at-read-requires : goal.instruction_at-read-requires
instruction_at-read-requires c = search (to_exits, rules)

pub enum_told-1 : goal.enum_told-1
enum_told-1 c = search (to_exits, rules)

pub enum_known-read : goal.enum_known-read
enum_known-read c = search (to_exits, rules)

pub block_word-below-requires : goal.block_word-below-requires
block_word-below-requires c = search (to_exits, rules)

pub overflow_cast-result : goal.overflow_cast-result
overflow_cast-result c = search (to_exits, rules)

pub overflow_add-result : goal.overflow_add-result
overflow_add-result c = search (to_exits, rules)

pub enum_known-i : goal.enum_known-i
enum_known-i c = search (to_exits, rules)

pub takes_of-takes-requires : goal.takes_of-takes-requires
takes_of-takes-requires c = search (to_exits, rules)

pub branch_out-requires : goal.branch_out-requires
branch_out-requires c = search (to_exits, rules)

pub returns-in-Err : goal.returns-in-Err
returns-in-Err c = search (to_exits, rules)

pub returns-in-Loop : goal.returns-in-Loop
returns-in-Loop c = search (to_exits, rules)

pub returns-in-Block : goal.returns-in-Block
returns-in-Block c = search (to_exits, rules)

pub returns-in_default : goal.returns-in_default
returns-in_default c = search (to_exits, c.in_default.not-Block, c.in_default.not-Loop, rules)
