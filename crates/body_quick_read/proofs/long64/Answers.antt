use borrow.Author.Rules.{rules}
use Rattle.body_quick_read.proofs.Shorts.{short_exits}
use Rattle.body_quick_read.proofs.long64.Goals as goal

pub s64_at-read-requires : goal.s64_at-read-requires
s64_at-read-requires c = search (short_exits, rules)

pub enum_told-1 : goal.enum_told-1
enum_told-1 c = search (short_exits, rules)

pub enum_known-read : goal.enum_known-read
enum_known-read c = search (short_exits, rules)

pub overflow_sub-result : goal.overflow_sub-result
overflow_sub-result c = search (short_exits, rules)

pub enum_known-read-in-Minus-1 : goal.enum_known-read-in-Minus-1
enum_known-read-in-Minus-1 c = search (short_exits, rules)

pub overflow_sub-result-in-Minus : goal.overflow_sub-result-in-Minus
overflow_sub-result-in-Minus c = search (short_exits, rules)

pub returns-in-Refused : goal.returns-in-Refused
returns-in-Refused c = search (short_exits, rules)

pub returns-in-Plus : goal.returns-in-Plus
returns-in-Plus c = search (short_exits, rules)

pub returns-in-Minus : goal.returns-in-Minus
returns-in-Minus c = search (short_exits, rules)
