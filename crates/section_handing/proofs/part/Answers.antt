-- `section_handing::part` meets its contract: as much of the part as there is, by where the two places lie.
use borrow.Author.Rules.{rules}
use Rattle.section_handing.proofs.Parts.{part_between}
use Rattle.section_handing.proofs.part.Goals as goal

pub returns : goal.returns
returns c = search (part_between, rules)
