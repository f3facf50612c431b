-- `section_decide::decide_deep` meets its contract: the first pass refuses, or the ranges are put and the second decides.
use borrow.Author.Rules.{rules}
use Rattle.section_decide.proofs.Deciding.{decide_exits}
use Rattle.section_decide.proofs.decide_deep.Goals as goal

pub judge_links-links-requires : goal.judge_links-links-requires
judge_links-links-requires c = search (decide_exits, rules)

pub number-requires : goal.number-requires
number-requires c = search (decide_exits, rules)

pub judge_rules-requires : goal.judge_rules-requires
judge_rules-requires c = search (decide_exits, rules)

pub returns-in-Err : goal.returns-in-Err
returns-in-Err c = search (decide_exits, rules)

pub returns-in-Ok : goal.returns-in-Ok
returns-in-Ok c = search (decide_exits, rules)
