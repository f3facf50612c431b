-- `number_bits::leb_loop` meets its contract: the loop's invariant is `Part` of proofs/Bits.antt, and what may follow falls.
use borrow.Author.Rules.{rules}
use Rattle.number_bits.proofs.Bits.{leb_exits}
use Rattle.number_bits.proofs.leb_loop.Goals as goal

pub overflow_add-next : goal.overflow_add-next
overflow_add-next c = search (leb_exits, rules)

pub loop-count-init : goal.loop-count-init
loop-count-init c = search (leb_exits, rules)

pub byte_at-read-requires : goal.byte_at-read-requires
byte_at-read-requires c = search (leb_exits, rules)

pub enum_known-read : goal.enum_known-read
enum_known-read c = search (leb_exits, rules)

pub enum_told-1 : goal.enum_told-1
enum_told-1 c = search (leb_exits, rules)

pub returns-in_default : goal.returns-in_default
returns-in_default c = search (leb_exits, rules)

pub overflow_add-count : goal.overflow_add-count
overflow_add-count c = search (leb_exits, rules)

pub overflow_mul-result : goal.overflow_mul-result
overflow_mul-result c = search (leb_exits, rules)

pub overflow_add-result : goal.overflow_add-result
overflow_add-result c = search (leb_exits, rules)

pub overflow_add-result-then-b-lt-TWO_BYTES : goal.overflow_add-result-then-b-lt-TWO_BYTES
overflow_add-result-then-b-lt-TWO_BYTES c = search (leb_exits, rules)

pub returns-then-b-lt-TWO_BYTES : goal.returns-then-b-lt-TWO_BYTES
returns-then-b-lt-TWO_BYTES c = search (leb_exits, rules)

pub overflow_mul-value : goal.overflow_mul-value
overflow_mul-value c = search (leb_exits, rules)

pub overflow_add-value : goal.overflow_add-value
overflow_add-value c = search (leb_exits, rules)

pub overflow_mul-weight : goal.overflow_mul-weight
overflow_mul-weight c = search (leb_exits, rules)

pub overflow_add-next-in-loop-count : goal.overflow_add-next-in-loop-count
overflow_add-next-in-loop-count c = search (leb_exits, rules)

pub loop-count-smaller : goal.loop-count-smaller
loop-count-smaller c = search (leb_exits, rules)

pub loop-count-preserved : goal.loop-count-preserved
loop-count-preserved c = search (leb_exits, rules)

pub returns : goal.returns
returns c = search (leb_exits, rules)
