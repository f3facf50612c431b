-- `run_cells::default_kind` meets its contract.
use borrow.Author.Rules.{rules}
use Rattle.run_cells.proofs.Filling.{kind_exits}
use Rattle.run_cells.proofs.default_kind.Goals as goal

pub returns-in-Number : goal.returns-in-Number
returns-in-Number c = search (kind_exits, rules)

pub returns-in-Ref : goal.returns-in-Ref
returns-in-Ref c = search (kind_exits, rules)
