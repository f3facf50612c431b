-- `body_judge::judge_sized` meets its contract.
use borrow.Author.Rules.{rules}
use Rattle.body_judge.proofs.Sizing.{sized_exits}
use Rattle.body_judge.proofs.judge_sized.Goals as goal

pub returns-then-s-gt-MOST_BYTES : goal.returns-then-s-gt-MOST_BYTES
returns-then-s-gt-MOST_BYTES c = search (sized_exits, rules)

pub judge_typed-requires : goal.judge_typed-requires
judge_typed-requires c = search (sized_exits, rules)

pub returns : goal.returns
returns c = search (sized_exits, rules)
