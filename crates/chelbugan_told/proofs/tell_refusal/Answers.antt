-- `chelbugan_told::tell_refusal` meets its contract: what is told of a place is read off its case.
use Rattle.chelbugan_told.proofs.Exits.{in_library_told, in_addon_told, plain-told}
use Rattle.chelbugan_told.proofs.tell_refusal.Goals as goal

pub returns-in-Library : goal.returns-in-Library
returns-in-Library c = search in_library_told

pub returns-in-Addon : goal.returns-in-Addon
returns-in-Addon c = search in_addon_told

pub returns-in-Plain : goal.returns-in-Plain
returns-in-Plain c = search plain-told
