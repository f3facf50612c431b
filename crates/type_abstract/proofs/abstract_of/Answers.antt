-- `type_abstract::abstract_of` meets its contract: below the last code, above the first, between them.
use borrow.Author.Rules.{rules}
use Rattle.type_abstract.proofs.Finding.{finding}
use Rattle.type_abstract.proofs.abstract_of.Goals as goal

pub returns-then-code-lt-LAST_CODE : goal.returns-then-code-lt-LAST_CODE
returns-then-code-lt-LAST_CODE c = search (finding, rules)

pub returns-then-code-gt-FIRST_CODE : goal.returns-then-code-gt-FIRST_CODE
returns-then-code-gt-FIRST_CODE c = search (finding, rules)

pub returns : goal.returns
returns c = search (finding, rules)
