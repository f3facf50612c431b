use Rattle.section_call.proofs.Judging.{lent_exits}
use borrow.Author.Rules.{rules}
use Rattle.section_call.proofs.judge_lent.Goals as goal

pub returns-in-Ok : goal.returns-in-Ok
returns-in-Ok c = search (lent_exits, rules)

pub returns-in-Err : goal.returns-in-Err
returns-in-Err c = search (lent_exits, rules)
