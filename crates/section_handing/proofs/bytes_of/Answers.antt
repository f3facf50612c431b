-- `section_handing::bytes_of` meets its contract: by the answer.
use borrow.Author.Rules.{rules}
use Rattle.section_handing.proofs.Parts.{named_exits}
use Rattle.section_handing.proofs.bytes_of.Goals as goal

pub returns-in-Refused : goal.returns-in-Refused
returns-in-Refused c = search (named_exits, rules)

pub returns-in-Library : goal.returns-in-Library
returns-in-Library c = search (named_exits, rules)

pub returns-in-Addon : goal.returns-in-Addon
returns-in-Addon c = search (named_exits, rules)
