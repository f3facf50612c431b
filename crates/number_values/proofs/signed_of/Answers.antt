-- `number_values::signed_of` meets its contract: each way out by the two tests that led there.
use borrow.Author.Rules.{rules}
use Rattle.number_values.proofs.Signed.{signed_exits}
use Rattle.number_values.proofs.signed_of.Goals as goal

pub sign_weight-sign-requires : goal.sign_weight-sign-requires
sign_weight-sign-requires c = search (signed_exits, rules)

pub plus_of-requires : goal.plus_of-requires
plus_of-requires c = search (signed_exits, rules)

pub returns-then-value-half : goal.returns-then-value-half
returns-then-value-half c = search (signed_exits, rules)

pub returns-then-value-sign : goal.returns-then-value-sign
returns-then-value-sign c = search (signed_exits, rules)

pub overflow_mul-under : goal.overflow_mul-under
overflow_mul-under c = search (signed_exits, rules)

pub overflow_sub-under : goal.overflow_sub-under
overflow_sub-under c = search (signed_exits, rules)

pub minus_of-requires : goal.minus_of-requires
minus_of-requires c = search (signed_exits, rules)

pub returns-then-under-half : goal.returns-then-under-half
returns-then-under-half c = search (signed_exits, rules)

pub returns : goal.returns
returns c = search (signed_exits, rules)
