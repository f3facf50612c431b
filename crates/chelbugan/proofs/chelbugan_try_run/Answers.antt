-- `chelbugan::chelbugan_try_run` meets its contract: how the run ended is told.
use borrow.Author.Rules.{rules}
use Rattle.chelbugan_told.proofs.Telling.{run-told}
use Rattle.chelbugan.proofs.chelbugan_try_run.Goals as goal

pub returns : goal.returns
returns c = search (run-told, rules)
