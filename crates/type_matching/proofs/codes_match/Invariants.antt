-- which list the codes are read from
use Rattle.type_table.specs.View.{both_codes}
use Rattle.type_matching.proofs.codes_match.Given as goal

abbrev pub ghost-list_matches : goal.ghost-list_matches
ghost-list_matches a = a.codes.now

abbrev pub ghost-list_matches-2 : goal.ghost-list_matches-2
ghost-list_matches-2 a = a.shared.now

abbrev pub ghost-list_matches-3 : goal.ghost-list_matches-3
ghost-list_matches-3 a = both_codes a.shared.now a.codes.now
