use borrow.Author.Rules.{rules}
use Rattle.body_quick_take.proofs.Takings.{take_exits}
use Rattle.body_quick_take.proofs.taken.Goals as goal

pub overflow_add-result : goal.overflow_add-result
overflow_add-result c = search (take_exits, rules)

pub returns-then-dead-eq1 : goal.returns-then-dead-eq1
returns-then-dead-eq1 c = search (take_exits, rules)

pub returns-else-dead-eq1 : goal.returns-else-dead-eq1
returns-else-dead-eq1 c = search (take_exits, rules)

pub overflow_add-top : goal.overflow_add-top
overflow_add-top c = search (take_exits, rules)

pub overflow_sub-top : goal.overflow_sub-top
overflow_sub-top c = search (take_exits, rules)

pub word32-o-requires : goal.word32-o-requires
word32-o-requires c = search (take_exits, rules)

pub returns-then-o-w : goal.returns-then-o-w
returns-then-o-w c = search (take_exits, rules)

pub fit_word-fit-requires : goal.fit_word-fit-requires
fit_word-fit-requires c = search (take_exits, rules)

pub enum_told-1 : goal.enum_told-1
enum_told-1 c = search (take_exits, rules)

pub enum_told-in-ButForNull : goal.enum_told-in-ButForNull
enum_told-in-ButForNull c = search (take_exits, rules)

pub enum_told-in-Unfit : goal.enum_told-in-Unfit
enum_told-in-Unfit c = search (take_exits, rules)

pub returns-in-Fits : goal.returns-in-Fits
returns-in-Fits c = search (take_exits, rules)

pub returns-in-ButForNull : goal.returns-in-ButForNull
returns-in-ButForNull c = search (take_exits, rules)

pub returns-in-Unfit : goal.returns-in-Unfit
returns-in-Unfit c = search (take_exits, rules)
