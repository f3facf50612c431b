-- `type_read::flag_at` meets its contract: 00 or 01, by the byte.
use borrow.Author.Rules.{rules}
use Rattle.number_bytes.proofs.Laws.{next_fits}
use Rattle.type_read.proofs.Fields.{flag_exits}
use Rattle.type_read.proofs.flag_at.Goals as goal

pub returns-in_default : goal.returns-in_default
returns-in_default c = search (flag_exits, next_fits, rules)

pub overflow_add-result : goal.overflow_add-result
overflow_add-result c = search (flag_exits, next_fits, rules)

pub returns-then-b-eq0 : goal.returns-then-b-eq0
returns-then-b-eq0 c = search (flag_exits, next_fits, rules)

pub overflow_add-result-then-b-eq1 : goal.overflow_add-result-then-b-eq1
overflow_add-result-then-b-eq1 c = search (flag_exits, next_fits, rules)

pub returns-then-b-eq1 : goal.returns-then-b-eq1
returns-then-b-eq1 c = search (flag_exits, next_fits, rules)

pub returns : goal.returns
returns c = search (flag_exits, next_fits, rules)
