-- `run_call::run_prepared` meets its contract: a refusal leaves the state zero, and what is ready runs.
use borrow.Author.Rules.{rules}
use Rattle.run_call.proofs.Inner.{run-told, may_place, refusal-told}
use Rattle.run_call.proofs.run_prepared.Goals as goal

pub run_placed-requires : goal.run_placed-requires
run_placed-requires c = search (may_place, rules)

pub returns-in-Err : goal.returns-in-Err
returns-in-Err c = search (refusal-told, rules)

pub returns-in-Ok : goal.returns-in-Ok
returns-in-Ok c = search (run-told, rules)
