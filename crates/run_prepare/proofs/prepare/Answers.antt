-- `run_prepare::prepare` meets its contract: 14 for the scratch or for the state, then the verdict.
use borrow.Author.Rules.{rules}
use Rattle.run_prepare.proofs.Ways.{prepare_exits, scratch_room}
use Rattle.run_prepare.proofs.prepare.Goals as goal

pub scratch_enough-requires : goal.scratch_enough-requires
scratch_enough-requires c = search (prepare_exits, rules)

pub returns-then-not-scratch_enough : goal.returns-then-not-scratch_enough
returns-then-not-scratch_enough c = search (prepare_exits, rules)

pub returns-then-not-enough : goal.returns-then-not-enough
returns-then-not-enough c = search (prepare_exits, rules)

pub judge-requires : goal.judge-requires
judge-requires c = search (scratch_room, prepare_exits, rules)

pub returns : goal.returns
returns c = search (prepare_exits, rules)
