-- `section_both::with_before` meets its contract: by the verdict.
use borrow.Author.Rules.{rules}
use Rattle.section_both.proofs.Joining.{two_exits}
use Rattle.section_both.proofs.with_before.Goals as goal

pub returns-in-Err : goal.returns-in-Err
returns-in-Err c = search (two_exits, rules)

pub returns-in-Ok : goal.returns-in-Ok
returns-in-Ok c = search (two_exits, rules)
