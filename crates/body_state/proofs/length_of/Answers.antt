-- `body_state::length_of` meets its contract.
use borrow.Author.Rules.{rules}
use Rattle.body_state.proofs.Answers.{answer_exits}
use Rattle.body_state.proofs.length_of.Goals as goal

pub enum_known-values : goal.enum_known-values
enum_known-values c = search (answer_exits, rules)

pub enum_known-values-in-Fields-1 : goal.enum_known-values-in-Fields-1
enum_known-values-in-Fields-1 c = search (answer_exits, rules)

pub enum_told-1 : goal.enum_told-1
enum_told-1 c = search (answer_exits, rules)

pub returns-in-Types : goal.returns-in-Types
returns-in-Types c = search (answer_exits, rules)

pub returns-in-Fields : goal.returns-in-Fields
returns-in-Fields c = search (answer_exits, rules)

pub returns-in-One : goal.returns-in-One
returns-in-One c = search (answer_exits, rules)
