-- `body_plan_fields::struct_get` meets its contract.
use borrow.Author.Rules.{rules}
use Rattle.body_plan_fields.proofs.Going.{field_exits}
use Rattle.body_plan_fields.proofs.struct_get.Goals as goal

pub returns-in-Is : goal.returns-in-Is
returns-in-Is c = search (field_exits, rules)
