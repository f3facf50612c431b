use borrow.Author.Rules.{rules}
use Rattle.body_quick_read.proofs.Shorts.{short_exits}
use Rattle.body_quick_read.proofs.long_number.Goals as goal

pub u32_at-read-requires : goal.u32_at-read-requires
u32_at-read-requires c = search (short_exits, rules)

pub enum_known-read : goal.enum_known-read
enum_known-read c = search (short_exits, rules)

pub overflow_sub-result : goal.overflow_sub-result
overflow_sub-result c = search (short_exits, rules)

pub returns-in-Err : goal.returns-in-Err
returns-in-Err c = search (short_exits, rules)

pub returns-in-Ok : goal.returns-in-Ok
returns-in-Ok c = search (short_exits, rules)
