-- `number_values::natural_of` meets its contract: the range, then a byte to spare.
use borrow.Author.Rules.{rules}
use Rattle.number_values.proofs.Needed.{few_counts, natural_beyond, natural_fits, natural_padded}
use Rattle.number_values.proofs.natural_of.Goals as goal

pub returns-then-value-ge-U32_LIMIT : goal.returns-then-value-ge-U32_LIMIT
returns-then-value-ge-U32_LIMIT c = search (natural_beyond, rules)

pub spare-requires : goal.spare-requires
spare-requires c = search (few_counts, rules)

pub returns-then-spare : goal.returns-then-spare
returns-then-spare c = search (natural_padded, rules)

pub returns : goal.returns
returns c = search (natural_fits, rules)
