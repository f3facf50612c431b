-- `body_plan_rest::rest_code` meets its contract.
use borrow.Author.Rules.{rules}
use Rattle.body_plan_rest.proofs.Rests.{rest_exits}
use Rattle.body_plan_rest.proofs.rest_code.Goals as goal

pub ref_code-requires : goal.ref_code-requires
ref_code-requires c = search (rest_exits, rules)

pub ref_code-requires-else-target : goal.ref_code-requires-else-target
ref_code-requires-else-target c = search (rest_exits, rules)

pub returns-then-target : goal.returns-then-target
returns-then-target c = search (rest_exits, rules)

pub returns-else-target : goal.returns-else-target
returns-else-target c = search (rest_exits, rules)
