-- `chelbugan_section::judge_section` meets its contract: the loader's verdict is told.
use borrow.Author.Rules.{rules}
use Rattle.chelbugan_told.proofs.Telling.{section-told}
use Rattle.chelbugan_section.proofs.judge_section.Goals as goal

pub returns : goal.returns
returns c = search (section-told, rules)
