-- `lent_u16::word` meets its contract: a word of 16 bits is there where the place is below the length.
use borrow.Author.Rules.{rules}
use Rattle.lent_u16.proofs.Laws.{word_exits}
use Rattle.lent_u16.proofs.word.Goals as goal

pub returns-else-i-m : goal.returns-else-i-m
returns-else-i-m c = search (word_exits, rules)
