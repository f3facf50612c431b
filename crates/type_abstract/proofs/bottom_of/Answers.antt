-- `type_abstract::bottom_of` meets its contract: it is a part of the row.
use borrow.Author.Rules.{rules}
use Rattle.type_abstract.proofs.Table.{bottom_is}
use Rattle.type_abstract.proofs.bottom_of.Goals as goal

pub returns : goal.returns
returns c = search (bottom_is, rules)
