-- `section_clauses::super_entries` meets its contract: the loop holds the links of the numbers that are done.
use borrow.Author.Rules.{rules}
use Rattle.scope.specs.Reading.{entries}
use Rattle.scope.proofs.Told.{passed}
use Rattle.section_clauses.proofs.Listing.{linked_refused, linked_done}
use Rattle.section_clauses.proofs.super_entries.Goals as goal

pub returns-in_err-x : goal.returns-in_err-x
unfolding entries
returns-in_err-x c = search (passed, linked_refused, rules)

pub returns : goal.returns
returns c = search linked_done
