-- `run_move_casts::on_cast_fail_move` meets its contract.
use borrow.Author.Rules.{rules}
use Rattle.run_move_casts.proofs.CastWays.{cast_exits}
use Rattle.run_move_casts.proofs.on_cast_fail_move.Goals as goal

pub move_by_type-requires : goal.move_by_type-requires
move_by_type-requires c = search (cast_exits, rules)

pub returns : goal.returns
returns c = search (cast_exits, rules)
