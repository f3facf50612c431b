-- `type_hierarchy::kind_below` meets its contract: the number of a type's kind is read as that kind.
use borrow.Author.Rules.{rules}
use Rattle.type_hierarchy.proofs.ByForm.{kind_exits}
use Rattle.type_hierarchy.proofs.kind_below.Goals as goal

pub returns : goal.returns
returns c = search (kind_exits, rules)
