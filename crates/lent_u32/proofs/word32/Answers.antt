-- `lent_u32::word32` meets its contract: a word of 32 bits is there where the place is below the length.
use borrow.Author.Rules.{rules}
use Rattle.lent_u32.proofs.Reading.{word_exits}
use Rattle.lent_u32.proofs.word32.Goals as goal

pub returns-else-i-m : goal.returns-else-i-m
returns-else-i-m c = search (word_exits, rules)
