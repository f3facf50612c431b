-- `run_move_new::new_default_move` meets its contract.
use borrow.Author.Rules.{rules}
use Rattle.run_move_new.proofs.Makers.{new_exits}
use Rattle.run_move_new.proofs.new_default_move.Goals as goal

pub default_move-requires : goal.default_move-requires
default_move-requires c = search (new_exits, rules)

pub returns : goal.returns
returns c = search (new_exits, rules)
