-- `run_loop::step_next` meets its contract.
use borrow.Author.Rules.{rules}
use Rattle.run_loop.proofs.Looping.{read_exits}
use Rattle.run_loop.proofs.step_next.Goals as goal

pub step-requires : goal.step-requires
step-requires c = search (read_exits, rules)

pub returns-in-Err : goal.returns-in-Err
returns-in-Err c = search (read_exits, rules)
