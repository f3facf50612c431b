-- `body_call::judge_lent` meets its contract.
use borrow.Author.Rules.{rules}
use Rattle.body_call.proofs.Lending.{lent_exits, may_range, may_size}
use Rattle.body_call.proofs.judge_lent.Goals as goal

pub judge_both-judged-requires : goal.judge_both-judged-requires
judge_both-judged-requires c = search (lent_exits, rules)

pub enum_known-judged : goal.enum_known-judged
enum_known-judged c = search (lent_exits, rules)

pub enum_known-judged-in-Ok-1 : goal.enum_known-judged-in-Ok-1
enum_known-judged-in-Ok-1 c = search (lent_exits, rules)

pub overflow_cast-count : goal.overflow_cast-count
overflow_cast-count c = search (lent_exits, rules)

pub judge_sized-requires : goal.judge_sized-requires
judge_sized-requires c = record { sized = search (may_size, rules); ranged = search (may_range, rules) }

pub returns-in-Err : goal.returns-in-Err
returns-in-Err c = search (lent_exits, rules)

pub returns-in-Ok : goal.returns-in-Ok
returns-in-Ok c = search (lent_exits, rules)
