-- `body_references::non_null_word` meets its contract.
use borrow.Author.Rules.{rules}
use Rattle.body_references.proofs.Words.{word_exits}
use Rattle.body_references.proofs.non_null_word.Goals as goal

pub returns-then-o-eq-UNKNOWN : goal.returns-then-o-eq-UNKNOWN
returns-then-o-eq-UNKNOWN c = search (word_exits, rules)

pub returns-then-o-lt-REFERENCES : goal.returns-then-o-lt-REFERENCES
returns-then-o-lt-REFERENCES c = search (word_exits, rules)

pub overflow_sub-result : goal.overflow_sub-result
overflow_sub-result c = search (word_exits, rules)

pub returns-then-o-eq1 : goal.returns-then-o-eq1
returns-then-o-eq1 c = search (word_exits, rules)

pub returns : goal.returns
returns c = search (word_exits, rules)
