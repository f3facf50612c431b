-- `body_plan_parts::ref_code` meets its contract.
use borrow.Author.Rules.{rules}
use Rattle.body_plan_parts.proofs.Words.{planning_exits}
use Rattle.body_plan_parts.proofs.ref_code.Goals as goal

pub overflow_mul-result : goal.overflow_mul-result
overflow_mul-result c = search (planning_exits, rules)

pub overflow_add-result : goal.overflow_add-result
overflow_add-result c = search (planning_exits, rules)

pub overflow_mul-result-else-null : goal.overflow_mul-result-else-null
overflow_mul-result-else-null c = search (planning_exits, rules)

pub overflow_add-result-else-null : goal.overflow_add-result-else-null
overflow_add-result-else-null c = search (planning_exits, rules)

pub returns-then-null : goal.returns-then-null
returns-then-null c = search (planning_exits, rules)

pub returns-else-null : goal.returns-else-null
returns-else-null c = search (planning_exits, rules)
