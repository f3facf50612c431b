-- What is told is what was answered: the kind and the values are read off the answer's case, and a refusal's place off its own.
use Prim.Native.Nat.{ℕ}
use mathlib.Core.Path.{◌≡◌, refl}
use mathlib.Core.List.{List, [], ◌∷◌}
use Rattle.scope.specs.Told.{no_in}
use Rattle.std.specs.Prelude.{Result, Ok, Err}
use Rattle.scope.specs.declared.Rejected.{Rejected}
use Rattle.scope.specs.declared.Place.{Place}
use Rattle.scope.specs.declared.Place
use Rattle.scope.specs.declared.Asked.{Asked}
use Rattle.scope.specs.declared.Asked
use Rattle.scope.specs.declared.Ran.{Ran}
use Rattle.scope.specs.declared.Ran
use Rattle.chelbugan_told.specs.Values.{RefusalTold, VerdictTold, AskedTold, RanTold}

pub in_library_told : {number at : ℕ} {place : Place} → place ≡ Place.TheVariants.Library at → RefusalTold number place 0 (number ∷ at ∷ 1 ∷ 0 ∷ [])
in_library_told e = record { kind = refl; values = rw e }

pub in_addon_told : {number at : ℕ} {place : Place} → place ≡ Place.TheVariants.Addon at → RefusalTold number place 0 (number ∷ at ∷ 2 ∷ 0 ∷ [])
in_addon_told e = record { kind = refl; values = rw e }

pub plain-told : {number at : ℕ} {place : Place} → place ≡ Place.TheVariants.Plain at → RefusalTold number place 0 (number ∷ at ∷ 0 ∷ 0 ∷ [])
plain-told e = record { kind = refl; values = rw e }

pub accepted_told : {v : Result ℕ Rejected} {count : ℕ} → v ≡ Ok count → VerdictTold v 1 (count ∷ 0 ∷ 0 ∷ 0 ∷ [])
accepted_told e = record { kind = rw e; values = rw e }

pub refused_told : {v : Result ℕ Rejected} {number r : ℕ} {place : Place} {answer' : List ℕ} → v ≡ Err (no_in number place) → RefusalTold number place r answer' → VerdictTold v r answer'
refused_told e t = record { kind = rw e t.kind; values = rw e t.values }

pub library_told : {a : Asked} {from to : ℕ} → a ≡ Asked.TheVariants.Library from to → AskedTold a 1 (from ∷ to ∷ 1 ∷ 0 ∷ [])
library_told e = record { kind = rw e; values = rw e }

pub addon_told : {a : Asked} {from to : ℕ} → a ≡ Asked.TheVariants.Addon from to → AskedTold a 1 (from ∷ to ∷ 2 ∷ 0 ∷ [])
addon_told e = record { kind = rw e; values = rw e }

pub absent-told : {a : Asked} {number r : ℕ} {place : Place} {answer' : List ℕ} → a ≡ Asked.TheVariants.Refused number place → RefusalTold number place r answer' → AskedTold a r answer'
absent-told e t = record { kind = rw e t.kind; values = rw e t.values }

pub done-told : {a : Ran} {steps results : ℕ} → a ≡ Ran.TheVariants.Done steps results → RanTold a 1 (steps ∷ results ∷ 0 ∷ 0 ∷ [])
done-told e = record { kind = rw e; values = rw e }

pub trapped_told : {a : Ran} {trap place steps : ℕ} → a ≡ Ran.TheVariants.Trapped trap place steps → RanTold a 2 (trap ∷ place ∷ steps ∷ 0 ∷ [])
trapped_told e = record { kind = rw e; values = rw e }

pub spent_told : {a : Ran} {steps : ℕ} → a ≡ Ran.TheVariants.Spent steps → RanTold a 3 (steps ∷ 0 ∷ 0 ∷ 0 ∷ [])
spent_told e = record { kind = rw e; values = rw e }

pub no-run-told : {a : Ran} {number r : ℕ} {place : Place} {answer' : List ℕ} → a ≡ Ran.TheVariants.Refused number place → RefusalTold number place r answer' → RanTold a r answer'
no-run-told e t = record { kind = rw e t.kind; values = rw e t.values }
