-- `body_judge::finish` meets its contract.
use borrow.Author.Rules.{rules}
use Rattle.body_judge.proofs.Typing.{typed_exits}
use Rattle.body_judge.proofs.finish.Goals as goal

pub enum_known-ended : goal.enum_known-ended
enum_known-ended c = search (typed_exits, rules)

pub enum_known-ended-in-Ok-1 : goal.enum_known-ended-in-Ok-1
enum_known-ended-in-Ok-1 c = search (typed_exits, rules)

pub returns-then-stop-s : goal.returns-then-stop-s
returns-then-stop-s c = search (typed_exits, rules)

pub returns-in-Err : goal.returns-in-Err
returns-in-Err c = search (typed_exits, rules)

pub returns-else-stop-s : goal.returns-else-stop-s
returns-else-stop-s c = search (typed_exits, rules)
