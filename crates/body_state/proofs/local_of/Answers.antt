-- `body_state::local_of` meets its contract.
use borrow.Author.Rules.{rules}
use Rattle.body_state.proofs.Answers.{answer_exits}
use Rattle.body_state.proofs.local_of.Goals as goal

pub word32-code-requires : goal.word32-code-requires
word32-code-requires c = search (answer_exits, rules)

pub returns-then-x-locals : goal.returns-then-x-locals
returns-then-x-locals c = search (answer_exits, rules)

pub returns : goal.returns
returns c = search (answer_exits, rules)
