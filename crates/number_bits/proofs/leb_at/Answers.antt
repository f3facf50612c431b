-- `number_bits::leb_at` meets its contract: a number of one byte by its byte, any other by the loop.
use borrow.Author.Rules.{rules}
use Rattle.number_bits.proofs.OneByte.{one_byte_exits}
use Rattle.number_bits.proofs.leb_at.Goals as goal

pub returns-in_default : goal.returns-in_default
returns-in_default c = search (one_byte_exits, rules)

pub overflow_add-result : goal.overflow_add-result
overflow_add-result c = search (one_byte_exits, rules)

pub returns-then-first-lt-TWO_BYTES : goal.returns-then-first-lt-TWO_BYTES
returns-then-first-lt-TWO_BYTES c = search (one_byte_exits, rules)

pub leb_loop-requires : goal.leb_loop-requires
leb_loop-requires c = search (one_byte_exits, rules)
