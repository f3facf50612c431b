-- `body_call::judge_enough` meets its contract: sizes first, then memory as it has to be.
use borrow.Author.Rules.{rules}
use Rattle.body_call.proofs.Lending.{lent_exits, lent_prepared, enough_judged}
use Rattle.body_call.proofs.judge_enough.Goals as goal

pub returns-then-not-table_enough : goal.returns-then-not-table_enough
returns-then-not-table_enough c = search (lent_exits, rules)

pub returns-then-work-lt-WORK : goal.returns-then-work-lt-WORK
returns-then-work-lt-WORK c = search (lent_exits, rules)

pub judge_lent-requires : goal.judge_lent-requires
judge_lent-requires c = search (lent_prepared, lent_exits, rules)

pub returns : goal.returns
returns c = search (enough_judged, lent_exits, rules)
