-- `chelbugan_told::tell_verdict` meets its contract: what is told is read off the verdict's case.
use Rattle.chelbugan_told.proofs.Exits.{accepted_told, refused_told}
use Rattle.chelbugan_told.proofs.tell_verdict.Goals as goal

pub returns-in-Ok : goal.returns-in-Ok
returns-in-Ok c = search accepted_told

pub returns-in-Err : goal.returns-in-Err
returns-in-Err c = search refused_told
