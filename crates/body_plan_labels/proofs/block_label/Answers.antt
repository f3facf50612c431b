-- `body_plan_labels::block_label` meets its contract.
use borrow.Author.Rules.{rules}
use Rattle.body_plan_labels.proofs.Labels.{label_exits}
use Rattle.body_plan_labels.proofs.block_label.Goals as goal

pub returns : goal.returns
returns c = search (label_exits, rules)
