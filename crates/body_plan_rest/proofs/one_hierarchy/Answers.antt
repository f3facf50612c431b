-- `body_plan_rest::one_hierarchy` meets its contract.
use borrow.Author.Rules.{rules}
use Rattle.body_plan_rest.proofs.Hierarchies.{tops_compared}
use Rattle.body_plan_rest.proofs.one_hierarchy.Goals as goal

pub returns : goal.returns
returns c = search (tops_compared, rules)
