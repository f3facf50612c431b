-- `number_values::minus_of` meets its contract: a byte to spare, or none.
use borrow.Author.Rules.{rules}
use Rattle.number_values.proofs.Needed.{below_bounds, minus_needed, minus_padded}
use Rattle.number_values.proofs.minus_of.Goals as goal

pub overflow_sub-under : goal.overflow_sub-under
overflow_sub-under c = search (below_bounds, rules)

pub spare-requires : goal.spare-requires
spare-requires c = search (below_bounds, rules)

pub returns-then-spare : goal.returns-then-spare
returns-then-spare c = search (minus_padded, rules)

pub returns : goal.returns
returns c = search (minus_needed, rules)
