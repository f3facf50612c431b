-- `body_plan_parts::defined_code` meets its contract.
use borrow.Author.Rules.{rules}
use Rattle.body_plan_parts.proofs.Words.{planning_exits}
use Rattle.body_plan_parts.proofs.defined_code.Goals as goal

pub overflow_mul-result : goal.overflow_mul-result
overflow_mul-result c = search (planning_exits, rules)

pub overflow_add-result : goal.overflow_add-result
overflow_add-result c = search (planning_exits, rules)

pub returns : goal.returns
returns c = search (planning_exits, rules)
