-- `run_move_fields::get_field_move` meets its contract.
use borrow.Author.Rules.{rules}
use Rattle.run_move_fields.proofs.Fields.{field_exits}
use Rattle.run_move_fields.proofs.get_field_move.Goals as goal

pub returns-then-n-o : goal.returns-then-n-o
returns-then-n-o c = search (field_exits, rules)
