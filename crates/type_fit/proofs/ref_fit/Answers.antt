-- `type_fit::ref_fit` meets its contract: heaps decide, and then whether null is wrong.
use borrow.Author.Rules.{rules}
use Rattle.type_fit.proofs.Same.{ref_exits, heaps_apart, only_null_wrong}
use Rattle.type_fit.proofs.ref_fit.Goals as goal

pub returns-then-not-heap_below : goal.returns-then-not-heap_below
returns-then-not-heap_below c = search (heaps_apart, rules)

pub returns-then-m : goal.returns-then-m
returns-then-m c = search (ref_exits, rules)

pub returns-then-nullable : goal.returns-then-nullable
returns-then-nullable c = search (only_null_wrong, rules)

pub returns-in-Number : goal.returns-in-Number
returns-in-Number c = search (ref_exits, rules)

pub returns-else-nullable : goal.returns-else-nullable
returns-else-nullable c = search (ref_exits, rules)
