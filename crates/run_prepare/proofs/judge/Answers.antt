-- `run_prepare::judge` meets its contract: the body's refusal, then the budget, then what is read again.
use borrow.Author.Rules.{rules}
use Rattle.run_prepare.proofs.Ways.{judge_exits, may_read_section, run-judged}
use Rattle.run_prepare.proofs.judge.Goals as goal

pub judge_body-judged-requires : goal.judge_body-judged-requires
judge_body-judged-requires c = search (judge_exits, rules)

pub enum_known-judged : goal.enum_known-judged
enum_known-judged c = search (judge_exits, rules)

pub enum_told-1 : goal.enum_told-1
enum_told-1 c = search (judge_exits, rules)

pub over_budget-requires : goal.over_budget-requires
over_budget-requires c = search (judge_exits, rules)

pub returns-then-over_budget : goal.returns-then-over_budget
returns-then-over_budget c = search (judge_exits, rules)

pub read_section-requires : goal.read_section-requires
read_section-requires c = search (may_read_section, judge_exits, rules)

pub returns-in-Err : goal.returns-in-Err
returns-in-Err c = search (judge_exits, rules)

pub returns-else-over_budget : goal.returns-else-over_budget
returns-else-over_budget c = search (run-judged, judge_exits, rules)
