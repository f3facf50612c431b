-- `run_ends::fill_ends` meets its contract: each turn takes one instruction from what is still to be read.
use borrow.Author.Rules.{rules}
use Rattle.run_ends.proofs.Filling.{fill_exits}
use Rattle.run_ends.proofs.fill_ends.Goals as goal

pub returns-in_default : goal.returns-in_default
returns-in_default c = search (fill_exits, rules)

pub note-noted-requires : goal.note-noted-requires
note-noted-requires c = search (fill_exits, rules)

pub returns-in_default-noted : goal.returns-in_default-noted
returns-in_default-noted c = search (fill_exits, rules)

pub returns : goal.returns
returns c = search (fill_exits, rules)
