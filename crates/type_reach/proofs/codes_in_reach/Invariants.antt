-- Each walk's list is what its reading captures: the add-on's codes, the library's, or both.
use Rattle.type_table.specs.View.{both_codes}
use Rattle.type_reach.proofs.codes_in_reach.Given as goal

abbrev pub ghost-list_in_reach : goal.ghost-list_in_reach
ghost-list_in_reach a = a.word.0.now

abbrev pub ghost-list_in_reach-2 : goal.ghost-list_in_reach-2
ghost-list_in_reach-2 a = a.word.0.now

abbrev pub ghost-list_in_reach-3 : goal.ghost-list_in_reach-3
ghost-list_in_reach-3 a = both_codes a.word.0.now a.word.1.now
