-- `number_values::signed_byte` meets its contract: below the sign as it is, else less 128.
use borrow.Author.Rules.{rules}
use Rattle.number_values.proofs.Signed.{byte_exits}
use Rattle.number_values.proofs.signed_byte.Goals as goal

pub returns-then-b-lt-SIGN : goal.returns-then-b-lt-SIGN
returns-then-b-lt-SIGN c = search (byte_exits, rules)

pub overflow_sub-result : goal.overflow_sub-result
overflow_sub-result c = search (byte_exits, rules)

pub returns : goal.returns
returns c = search (byte_exits, rules)
