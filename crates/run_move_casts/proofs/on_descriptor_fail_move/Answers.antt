-- `run_move_casts::on_descriptor_fail_move` meets its contract.
use borrow.Author.Rules.{rules}
use Rattle.run_move_casts.proofs.CastWays.{cast_exits}
use Rattle.run_move_casts.proofs.on_descriptor_fail_move.Goals as goal

pub move_by_descriptor-requires : goal.move_by_descriptor-requires
move_by_descriptor-requires c = search (cast_exits, rules)

pub returns : goal.returns
returns c = search (cast_exits, rules)
