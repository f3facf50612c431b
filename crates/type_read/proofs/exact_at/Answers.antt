-- `type_read::exact_at` meets its contract: the number as the table keeps it, or its refusal.
use borrow.Author.Rules.{rules}
use Rattle.type_read.proofs.Heaps.{number_exits}
use Rattle.type_read.proofs.exact_at.Goals as goal

pub returns : goal.returns
returns c = search (number_exits, rules)

pub returns-in_err-x : goal.returns-in_err-x
returns-in_err-x c = search (number_exits, rules)
