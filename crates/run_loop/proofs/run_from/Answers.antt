-- `run_loop::run_from` meets its contract: each turn is one step of the written run.
use borrow.Author.Rules.{rules}
use Rattle.run_loop.proofs.Looping.{run_exits}
use Rattle.run_loop.proofs.run_from.Goals as goal

pub loop-steps-init : goal.loop-steps-init
loop-steps-init c = search (run_exits, rules)

pub step_next-stepped-requires : goal.step_next-stepped-requires
step_next-stepped-requires c = search (run_exits, rules)

pub returns-in-Over : goal.returns-in-Over
returns-in-Over c = search (run_exits, rules)

pub loop-steps-preserved : goal.loop-steps-preserved
loop-steps-preserved c = search (run_exits, rules)

pub returns : goal.returns
returns c = search (run_exits, rules)
