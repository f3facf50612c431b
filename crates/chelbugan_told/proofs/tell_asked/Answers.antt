-- `chelbugan_told::tell_asked` meets its contract: what is told is read off the answer's case.
use Rattle.chelbugan_told.proofs.Exits.{library_told, addon_told, absent-told}
use Rattle.chelbugan_told.proofs.tell_asked.Goals as goal

pub returns-in-Library : goal.returns-in-Library
returns-in-Library c = search library_told

pub returns-in-Addon : goal.returns-in-Addon
returns-in-Addon c = search addon_told

pub returns-in-Refused : goal.returns-in-Refused
returns-in-Refused c = search absent-told
