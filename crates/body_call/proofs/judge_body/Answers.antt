-- `body_call::judge_body` meets its contract.
use borrow.Author.Rules.{rules}
use Rattle.body_call.proofs.Lending.{lent_exits}
use Rattle.body_call.proofs.judge_body.Goals as goal

pub judge_enough-verdict-requires : goal.judge_enough-verdict-requires
judge_enough-verdict-requires c = search (lent_exits, rules)

pub clear-requires : goal.clear-requires
clear-requires c = search (lent_exits, rules)

pub returns : goal.returns
returns c = search (lent_exits, rules)
