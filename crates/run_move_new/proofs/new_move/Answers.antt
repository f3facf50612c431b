-- `run_move_new::new_move` meets its contract.
use borrow.Author.Rules.{rules}
use Rattle.run_move_new.proofs.Makers.{new_exits}
use Rattle.run_move_new.proofs.new_move.Goals as goal

pub given_move-requires : goal.given_move-requires
given_move-requires c = search (new_exits, rules)

pub returns : goal.returns
returns c = search (new_exits, rules)
