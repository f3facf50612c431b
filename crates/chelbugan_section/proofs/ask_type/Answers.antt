-- `chelbugan_section::ask_type` meets its contract: the loader's answer is told.
use borrow.Author.Rules.{rules}
use Rattle.chelbugan_told.proofs.Telling.{type-told}
use Rattle.chelbugan_section.proofs.ask_type.Goals as goal

pub returns : goal.returns
returns c = search (type-told, rules)
