-- `run_objects::held_field` meets its contract.
use borrow.Author.Rules.{rules}
use Rattle.run_objects.proofs.Asked.{ask_exits}
use Rattle.run_objects.proofs.held_field.Goals as goal

pub returns-then-count-i : goal.returns-then-count-i
returns-then-count-i c = search (ask_exits, rules)
