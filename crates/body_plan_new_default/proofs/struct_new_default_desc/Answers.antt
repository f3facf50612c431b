-- `body_plan_new_default::struct_new_default_desc` meets its contract.
use borrow.Author.Rules.{rules}
use Rattle.body_plan_new_default.proofs.Filling.{filling_exits}
use Rattle.body_plan_new_default.proofs.struct_new_default_desc.Goals as goal

pub returns-in-Are : goal.returns-in-Are
returns-in-Are c = search (filling_exits, rules)
