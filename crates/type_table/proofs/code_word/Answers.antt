-- `type_table::code_word` meets its contract: the place says which of the two lists the word is read from.
use borrow.Author.Rules.{rules}
use Rattle.type_table.proofs.Sides.{side_exits}
use Rattle.type_table.proofs.code_word.Goals as goal

pub returns-then-at-lt-SHARED : goal.returns-then-at-lt-SHARED
returns-then-at-lt-SHARED c = search (side_exits, rules)

pub returns-else-at-lt-SHARED : goal.returns-else-at-lt-SHARED
returns-else-at-lt-SHARED c = search (side_exits, rules)
