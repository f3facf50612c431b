-- `type_abstract::top_of` meets its contract: it is a part of the row.
use borrow.Author.Rules.{rules}
use Rattle.type_abstract.proofs.Table.{top_is}
use Rattle.type_abstract.proofs.top_of.Goals as goal

pub returns : goal.returns
returns c = search (top_is, rules)
