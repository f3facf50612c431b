use borrow.Author.Rules.{rules}
use Rattle.body_quick_values.proofs.Dropping.{drop_exits}
use Rattle.body_quick_values.proofs.drop_one.Goals as goal

pub returns-then-top-base : goal.returns-then-top-base
returns-then-top-base c = search (drop_exits, rules)

pub overflow_sub-result : goal.overflow_sub-result
overflow_sub-result c = search (drop_exits, rules)

pub returns : goal.returns
returns c = search (drop_exits, rules)
