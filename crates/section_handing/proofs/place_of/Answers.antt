-- `section_handing::place_of` meets its contract: by the test of the number.
use borrow.Author.Rules.{rules}
use Rattle.section_handing.proofs.Places.{place_exits}
use Rattle.section_handing.proofs.place_of.Goals as goal

pub returns-then-number-before : goal.returns-then-number-before
returns-then-number-before c = search (place_exits, rules)

pub returns-then-number-count : goal.returns-then-number-count
returns-then-number-count c = search (place_exits, rules)

pub returns : goal.returns
returns c = search (place_exits, rules)
