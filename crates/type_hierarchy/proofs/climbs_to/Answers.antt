-- `type_hierarchy::climbs_to` meets its contract: the test over ranges.
use borrow.Author.Rules.{rules}
use Rattle.type_hierarchy.proofs.InRange.{range_exits}
use Rattle.type_hierarchy.proofs.climbs_to.Goals as goal

pub returns-then-x-y : goal.returns-then-x-y
returns-then-x-y c = search (range_exits, rules)

pub returns-then-start-start_of : goal.returns-then-start-start_of
returns-then-start-start_of c = search (range_exits, rules)

pub returns : goal.returns
returns c = search (range_exits, rules)
