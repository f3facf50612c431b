-- `body_fit::fit_word` meets its contract.
use borrow.Author.Rules.{rules}
use Rattle.body_fit.proofs.Fitting.{fit_exits}
use Rattle.body_fit.proofs.fit_word.Goals as goal

pub returns-then-o-w : goal.returns-then-o-w
returns-then-o-w c = search (fit_exits, rules)

pub returns-then-o-eq-UNKNOWN : goal.returns-then-o-eq-UNKNOWN
returns-then-o-eq-UNKNOWN c = search (fit_exits, rules)

pub returns-then-w-eq-ANY_VALUE : goal.returns-then-w-eq-ANY_VALUE
returns-then-w-eq-ANY_VALUE c = search (fit_exits, rules)

pub returns-then-w-eq-ANY_REFERENCE : goal.returns-then-w-eq-ANY_REFERENCE
returns-then-w-eq-ANY_REFERENCE c = search (fit_exits, rules)

pub as_reference-requires : goal.as_reference-requires
as_reference-requires c = search (fit_exits, rules)

pub returns-then-o-eq-UNKNOWN_REFERENCE : goal.returns-then-o-eq-UNKNOWN_REFERENCE
returns-then-o-eq-UNKNOWN_REFERENCE c = search (fit_exits, rules)

pub as_reference-requires-then-w-eq-ANY_REFERENCE-2 : goal.as_reference-requires-then-w-eq-ANY_REFERENCE-2
as_reference-requires-then-w-eq-ANY_REFERENCE-2 c = search (fit_exits, rules)

pub returns-then-w-eq-ANY_REFERENCE-2 : goal.returns-then-w-eq-ANY_REFERENCE-2
returns-then-w-eq-ANY_REFERENCE-2 c = search (fit_exits, rules)

pub overflow_sub-o : goal.overflow_sub-o
overflow_sub-o c = search (fit_exits, rules)

pub overflow_sub-w : goal.overflow_sub-w
overflow_sub-w c = search (fit_exits, rules)

pub val_fit-requires : goal.val_fit-requires
val_fit-requires c = search (fit_exits, rules)

pub returns : goal.returns
returns c = search (fit_exits, rules)
