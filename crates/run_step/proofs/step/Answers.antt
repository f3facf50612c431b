-- `run_step::step` meets its contract.
use borrow.Author.Rules.{rules}
use Rattle.run_step.proofs.Stepping.{step_exits}
use Rattle.run_step.proofs.step.Goals as goal

pub enum_told-1 : goal.enum_told-1
enum_told-1 c = search (step_exits, rules)

pub open_block-requires : goal.open_block-requires
open_block-requires c = search (step_exits, rules)

pub enum_told-in-Loop : goal.enum_told-in-Loop
enum_told-in-Loop c = search (step_exits, rules)

pub open_loop-requires : goal.open_loop-requires
open_loop-requires c = search (step_exits, rules)

pub enum_told-in-End : goal.enum_told-in-End
enum_told-in-End c = search (step_exits, rules)

pub close-requires : goal.close-requires
close-requires c = search (step_exits, rules)

pub step_inside-requires : goal.step_inside-requires
step_inside-requires c = search (step_exits, c.in_default.not-Block, c.in_default.not-Loop, c.in_default.not-End, rules)

pub returns-in-Block : goal.returns-in-Block
returns-in-Block c = search (step_exits, rules)

pub returns-in-Loop : goal.returns-in-Loop
returns-in-Loop c = search (step_exits, rules)

pub returns-in-End : goal.returns-in-End
returns-in-End c = search (step_exits, rules)

pub returns-in_default : goal.returns-in_default
returns-in_default c = search (step_exits, c.in_default.not-Block, c.in_default.not-Loop, c.in_default.not-End, rules)
