-- `body_state::code_of` meets its contract.
use borrow.Author.Rules.{rules}
use Rattle.body_state.proofs.Answers.{answer_exits}
use Rattle.body_state.proofs.code_of.Goals as goal

pub enum_known-values : goal.enum_known-values
enum_known-values c = search (answer_exits, rules)

pub overflow_cast-first : goal.overflow_cast-first
overflow_cast-first c = search (answer_exits, rules)

pub overflow_add-first : goal.overflow_add-first
overflow_add-first c = search (answer_exits, rules)

pub code_word-requires : goal.code_word-requires
code_word-requires c = search (answer_exits, rules)

pub enum_known-values-in-Fields-1 : goal.enum_known-values-in-Fields-1
enum_known-values-in-Fields-1 c = search (answer_exits, rules)

pub overflow_cast-first-in-Fields : goal.overflow_cast-first-in-Fields
overflow_cast-first-in-Fields c = search (answer_exits, rules)

pub overflow_add-first-in-Fields : goal.overflow_add-first-in-Fields
overflow_add-first-in-Fields c = search (answer_exits, rules)

pub code_word-field-requires : goal.code_word-field-requires
code_word-field-requires c = search (answer_exits, rules)

pub enum_known-values-in-One-1 : goal.enum_known-values-in-One-1
enum_known-values-in-One-1 c = search (answer_exits, rules)

pub overflow_cast-result : goal.overflow_cast-result
overflow_cast-result c = search (answer_exits, rules)

pub returns-in-Types : goal.returns-in-Types
returns-in-Types c = search (answer_exits, rules)

pub returns-in-Fields : goal.returns-in-Fields
returns-in-Fields c = search (answer_exits, rules)

pub returns-in-One : goal.returns-in-One
returns-in-One c = search (answer_exits, rules)
