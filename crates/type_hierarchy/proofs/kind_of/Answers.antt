-- `type_hierarchy::kind_of` meets its contract: a form that is no struct is a function.
use borrow.Author.Rules.{rules}
use Rattle.type_hierarchy.proofs.ByForm.{kind_exits}
use Rattle.type_hierarchy.proofs.kind_of.Goals as goal

pub returns-then-is_struct : goal.returns-then-is_struct
returns-then-is_struct c = search (kind_exits, rules)

pub returns-else-is_struct : goal.returns-else-is_struct
returns-else-is_struct c = search (kind_exits, rules)
