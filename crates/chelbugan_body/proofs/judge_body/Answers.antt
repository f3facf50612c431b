-- `chelbugan_body::judge_body` meets its contract: the checker's verdict is told.
use borrow.Author.Rules.{rules}
use Rattle.chelbugan_told.proofs.Telling.{body-told}
use Rattle.chelbugan_body.proofs.judge_body.Goals as goal

pub returns : goal.returns
returns c = search (body-told, rules)
