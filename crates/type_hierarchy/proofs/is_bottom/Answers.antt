-- `type_hierarchy::is_bottom` meets its contract: the bottom of a type's hierarchy has one number.
use borrow.Author.Rules.{rules}
use Rattle.type_hierarchy.proofs.ByForm.{kind_exits}
use Rattle.type_hierarchy.proofs.is_bottom.Goals as goal

pub returns : goal.returns
returns c = search (kind_exits, rules)
