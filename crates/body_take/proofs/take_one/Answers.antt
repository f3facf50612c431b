-- `body_take::take_one` meets its contract.
use borrow.Author.Rules.{rules}
use Rattle.body_take.proofs.OneTaken.{one_exits}
use Rattle.body_take.proofs.take_one.Goals as goal

pub overflow_cast-result : goal.overflow_cast-result
overflow_cast-result c = search (one_exits, rules)

pub returns-then-dead : goal.returns-then-dead
returns-then-dead c = search (one_exits, rules)

pub returns-then-height-eq0 : goal.returns-then-height-eq0
returns-then-height-eq0 c = search (one_exits, rules)

pub overflow_sub-left : goal.overflow_sub-left
overflow_sub-left c = search (one_exits, rules)

pub operand_word-o-requires : goal.operand_word-o-requires
operand_word-o-requires c = search (one_exits, rules)

pub fit_word-fit-requires : goal.fit_word-fit-requires
fit_word-fit-requires c = search (one_exits, rules)

pub enum_told-1 : goal.enum_told-1
enum_told-1 c = search (one_exits, rules)

pub overflow_cast-result-in-Fits : goal.overflow_cast-result-in-Fits
overflow_cast-result-in-Fits c = search (one_exits, rules)

pub enum_told-in-ButForNull : goal.enum_told-in-ButForNull
enum_told-in-ButForNull c = search (one_exits, rules)

pub enum_told-in-Unfit : goal.enum_told-in-Unfit
enum_told-in-Unfit c = search (one_exits, rules)

pub returns-in-Fits : goal.returns-in-Fits
returns-in-Fits c = search (one_exits, rules)

pub returns-in-ButForNull : goal.returns-in-ButForNull
returns-in-ButForNull c = search (one_exits, rules)

pub returns-in-Unfit : goal.returns-in-Unfit
returns-in-Unfit c = search (one_exits, rules)
