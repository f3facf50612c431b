-- `section_call::judge_table` meets its contract: memory is zero, then its sizes are asked, then both sections are judged.
use borrow.Author.Rules.{rules}
use Rattle.section_call.proofs.Judging.{table_exits, all_blank}
use Rattle.section_call.proofs.judge_table.Goals as goal

pub returns-then-not-table_enough : goal.returns-then-not-table_enough
returns-then-not-table_enough c = search (table_exits, rules)

pub judge_lent-requires : goal.judge_lent-requires
judge_lent-requires c = search (all_blank, table_exits, rules)

pub returns : goal.returns
returns c = search (table_exits, rules)
