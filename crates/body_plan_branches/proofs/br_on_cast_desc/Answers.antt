-- `body_plan_branches::br_on_cast_desc` meets its contract.
use borrow.Author.Rules.{rules}
use Rattle.body_plan_branches.proofs.Casting.{branch_exits}
use Rattle.body_plan_branches.proofs.br_on_cast_desc.Goals as goal

pub returns-in-None : goal.returns-in-None
returns-in-None c = search (branch_exits, rules)

pub returns-in-Some : goal.returns-in-Some
returns-in-Some c = search (branch_exits, rules)
