-- `run_make::put_made` meets its contract.
use borrow.Author.Rules.{rules}
use Rattle.run_make.proofs.Objects.{make_exits}
use Rattle.run_make.proofs.put_made.Goals as goal

pub returns : goal.returns
returns c = search (make_exits, rules)
