-- `chelbugan_told::tell_ran` meets its contract: what is told is read off the answer's case.
use Rattle.chelbugan_told.proofs.Exits.{done-told, trapped_told, spent_told, no-run-told}
use Rattle.chelbugan_told.proofs.tell_ran.Goals as goal

pub returns-in-Done : goal.returns-in-Done
returns-in-Done c = search done-told

pub returns-in-Trapped : goal.returns-in-Trapped
returns-in-Trapped c = search trapped_told

pub returns-in-Spent : goal.returns-in-Spent
returns-in-Spent c = search spent_told

pub returns-in-Refused : goal.returns-in-Refused
returns-in-Refused c = search no-run-told
