-- `run_move_references::eq_move` meets its contract.
use borrow.Author.Rules.{rules}
use Rattle.run_move_references.proofs.References.{eq_exits, eq_other, eq_same}
use Rattle.run_move_references.proofs.eq_move.Goals as goal

pub returns-then-o-q : goal.returns-then-o-q
returns-then-o-q c = search eq_same

pub returns-in-To-other : goal.returns-in-To-other
returns-in-To-other c = search (eq_exits, rules)

pub returns-in-Wrong-other-2 : goal.returns-in-Wrong-other-2
returns-in-Wrong-other-2 c = search (eq_exits, rules)

pub returns-in-Null-other-2 : goal.returns-in-Null-other-2
returns-in-Null-other-2 c = search (eq_exits, rules)

pub returns-else-o-q : goal.returns-else-o-q
returns-else-o-q c = search eq_other
