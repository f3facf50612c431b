-- `section_both::judge_both` meets its contract: the library decides, or the joined list.
use Rattle.section_both.proofs.Joining.{first_refused, own_opened, own_decides}
use borrow.Author.Rules.{rules}
use Rattle.section_both.proofs.judge_both.Goals as goal

pub judge_addon-second-requires : goal.judge_addon-second-requires
judge_addon-second-requires c = search (own_opened, rules)

pub returns-in-Err : goal.returns-in-Err
returns-in-Err c = search (first_refused, rules)

pub returns-in-Ok : goal.returns-in-Ok
returns-in-Ok c = search (own_decides, rules)
