-- `run_step::step_inside` meets its contract.
use borrow.Author.Rules.{rules}
use Rattle.run_step.proofs.Stepping.{inside_movable, inside_carried, inside_exits}
use Rattle.run_step.proofs.step_inside.Goals as goal

pub move_of-it-requires : goal.move_of-it-requires
move_of-it-requires c = search (inside_exits, rules)

pub carry_out-requires : goal.carry_out-requires
carry_out-requires c = search (inside_movable, inside_exits, rules)

pub returns : goal.returns
returns c = search (inside_carried, inside_exits, rules)
