-- `number::tenth_at` meets its contract: each of the two bytes that may stand there, and all others.
use borrow.Author.Rules.{rules}
use Rattle.number.proofs.Wide.{tenth_exits, tenth_minus, tenth_plus}
use Rattle.number.proofs.tenth_at.Goals as goal

pub byte_at-read-requires : goal.byte_at-read-requires
byte_at-read-requires c = search (tenth_exits, rules)

pub enum_known-read : goal.enum_known-read
enum_known-read c = search (tenth_exits, rules)

pub enum_told-1 : goal.enum_told-1
enum_told-1 c = search (tenth_exits, rules)

pub returns-in_default : goal.returns-in_default
returns-in_default c = search (tenth_exits, rules)

pub overflow_add-next : goal.overflow_add-next
overflow_add-next c = search (tenth_exits, rules)

pub plus_of-requires : goal.plus_of-requires
plus_of-requires c = search (tenth_exits, rules)

pub returns-then-b-eq0 : goal.returns-then-b-eq0
returns-then-b-eq0 c = search (tenth_plus, rules)

pub overflow_sub-low : goal.overflow_sub-low
overflow_sub-low c = search (tenth_exits, rules)

pub overflow_add-next-then-b-eq127 : goal.overflow_add-next-then-b-eq127
overflow_add-next-then-b-eq127 c = search (tenth_exits, rules)

pub minus_of-requires : goal.minus_of-requires
minus_of-requires c = search (tenth_exits, rules)

pub returns-then-b-eq127 : goal.returns-then-b-eq127
returns-then-b-eq127 c = search (tenth_minus, rules)

pub returns : goal.returns
returns c = search (tenth_exits, rules)
