-- `section_call::judge_section` meets its contract: the count of both, or the refusal.
use borrow.Author.Rules.{rules}
use Rattle.section_call.proofs.Judging.{section_exits}
use Rattle.section_call.proofs.judge_section.Goals as goal

pub returns-in-Ok : goal.returns-in-Ok
returns-in-Ok c = search (section_exits, rules)

pub returns-in-Err : goal.returns-in-Err
returns-in-Err c = search (section_exits, rules)
