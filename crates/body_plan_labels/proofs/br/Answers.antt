-- `body_plan_labels::br` meets its contract.
use borrow.Author.Rules.{rules}
use Rattle.body_plan_labels.proofs.Labels.{label_exits}
use Rattle.body_plan_labels.proofs.br.Goals as goal

pub returns-in-Some : goal.returns-in-Some
returns-in-Some c = search (label_exits, rules)
