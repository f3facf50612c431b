-- `body_references::descriptor_word` meets its contract.
use borrow.Author.Rules.{rules}
use Rattle.body_references.proofs.Words.{word_exits}
use Rattle.body_references.proofs.descriptor_word.Goals as goal

pub overflow_mul-exact_x : goal.overflow_mul-exact_x
overflow_mul-exact_x c = search (word_exits, rules)

pub overflow_add-exact_x : goal.overflow_add-exact_x
overflow_add-exact_x c = search (word_exits, rules)

pub overflow_mul-exact_x-2 : goal.overflow_mul-exact_x-2
overflow_mul-exact_x-2 c = search (word_exits, rules)

pub overflow_add-exact_x-2 : goal.overflow_add-exact_x-2
overflow_add-exact_x-2 c = search (word_exits, rules)

pub overflow_add-exact_x-3 : goal.overflow_add-exact_x-3
overflow_add-exact_x-3 c = search (word_exits, rules)

pub fit_word-fit-requires : goal.fit_word-fit-requires
fit_word-fit-requires c = search (word_exits, rules)

pub overflow_mul-exact_y : goal.overflow_mul-exact_y
overflow_mul-exact_y c = search (word_exits, rules)

pub overflow_add-exact_y : goal.overflow_add-exact_y
overflow_add-exact_y c = search (word_exits, rules)

pub overflow_mul-exact_y-2 : goal.overflow_mul-exact_y-2
overflow_mul-exact_y-2 c = search (word_exits, rules)

pub overflow_add-exact_y-2 : goal.overflow_add-exact_y-2
overflow_add-exact_y-2 c = search (word_exits, rules)

pub overflow_add-exact_y-3 : goal.overflow_add-exact_y-3
overflow_add-exact_y-3 c = search (word_exits, rules)

pub overflow_mul-plain_y : goal.overflow_mul-plain_y
overflow_mul-plain_y c = search (word_exits, rules)

pub overflow_add-plain_y : goal.overflow_add-plain_y
overflow_add-plain_y c = search (word_exits, rules)

pub overflow_mul-plain_y-2 : goal.overflow_mul-plain_y-2
overflow_mul-plain_y-2 c = search (word_exits, rules)

pub overflow_add-plain_y-2 : goal.overflow_add-plain_y-2
overflow_add-plain_y-2 c = search (word_exits, rules)

pub overflow_add-plain_y-3 : goal.overflow_add-plain_y-3
overflow_add-plain_y-3 c = search (word_exits, rules)

pub enum_told-1 : goal.enum_told-1
enum_told-1 c = search (word_exits, rules)

pub enum_told-in-ButForNull : goal.enum_told-in-ButForNull
enum_told-in-ButForNull c = search (word_exits, rules)

pub enum_told-in-Unfit : goal.enum_told-in-Unfit
enum_told-in-Unfit c = search (word_exits, rules)

pub returns-in-Fits : goal.returns-in-Fits
returns-in-Fits c = search (word_exits, rules)

pub returns-in-ButForNull : goal.returns-in-ButForNull
returns-in-ButForNull c = search (word_exits, rules)

pub returns-in-Unfit : goal.returns-in-Unfit
returns-in-Unfit c = search (word_exits, rules)
