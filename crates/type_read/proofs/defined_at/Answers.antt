-- `type_read::defined_at` meets its contract: a number that is not negative, as the table keeps it, or a refusal.
use borrow.Author.Rules.{rules}
use Rattle.type_read.proofs.Heaps.{number_exits}
use Rattle.type_read.proofs.defined_at.Goals as goal

pub returns-in-Plus : goal.returns-in-Plus
returns-in-Plus c = search (number_exits, rules)

pub returns-in-Minus : goal.returns-in-Minus
returns-in-Minus c = search (number_exits, rules)

pub returns-in-Refused : goal.returns-in-Refused
returns-in-Refused c = search (number_exits, rules)
