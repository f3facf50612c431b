-- `run_move_references::is_null_move` meets its contract.
use borrow.Author.Rules.{rules}
use Rattle.run_move_references.proofs.References.{reference_exits}
use Rattle.run_move_references.proofs.is_null_move.Goals as goal

pub returns-in-To : goal.returns-in-To
returns-in-To c = search (reference_exits, rules)
