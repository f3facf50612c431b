-- `lent_u32::put32` meets its contract: out of range, a store to a list leaves it as it was.
use borrow.Author.Rules.{rules}
use Rattle.lent_u16.proofs.Laws.{put_exits}
use Rattle.lent_u32.proofs.put32.Goals as goal

pub returns-else-i-m : goal.returns-else-i-m
returns-else-i-m c = search (put_exits, rules)
