-- What two sayings of one answer tell: a reader's answer is one value with one place, or one refusal.
use Prim.Native.Nat.{ℕ}
use mathlib.Core.Path.{◌≡◌, refl, sym, ap, ◌∙◌}
use Rattle.std.specs.Prelude.{Result, Ok, Err, IsErrAnd}
use Rattle.std.proofs.lemmas.Result.{err_from_is_err_and}
use Rattle.scope.specs.declared.Refused.{Refused}
use Rattle.scope.specs.Reading.{Read, got, refused, then}
use Rattle.scope.specs.declared.Rejected.{Rejected}
use Rattle.scope.specs.declared.Place.{Place}
use Rattle.scope.specs.Judging.{Judged, rejected}
use Rattle.scope.specs.Told.{no_at, no_in, told}
use Rattle.scope.proofs.Impossible.{impossible}

pub ok_is : {A E : Type 0} {r : Result A E} {x y : A} → r ≡ Ok x → r ≡ Ok y → x ≡ y
ok_is p q = cc

pub err_is : {A E : Type 0} {r : Result A E} {x y : E} → r ≡ Err x → r ≡ Err y → x ≡ y
err_is p q = cc

module _ {A B E : Type 0} {r : Result (A × B) E} {u v : A} {m n : B} (p : r ≡ Ok (u, m)) (q : r ≡ Ok (v, n)) where
  pub value_is : u ≡ v
  value_is = ap (λ (t : A × B). t.0) (ok_is p q)

  pub place_is : m ≡ n
  place_is = ap (λ (t : A × B). t.1) (ok_is p q)

pub read_got : {A E : Type 0} {r : Result (A × ℕ) E} {u v : A} {m n : ℕ} → r ≡ Ok (u, m) → r ≡ Ok (v, n) → got u m ≡ got v n
read_got p q = let a = value_is p q in let b = place_is p q in cc

pub read_refused : {A B : Type 0} {r : Result A Refused} {n p : ℕ} {no : Refused} → r ≡ Err (no_at n p) → r ≡ Err no → let other : Read B = refused n p in other ≡ refused no.number no.at
read_refused e f = ap (λ (t : Refused). refused t.number t.at) (err_is e f)

pub rejected_as : {A B : Type 0} {r : Result A Rejected} {n : ℕ} {p : Place} {no : Rejected} → r ≡ Err (no_in n p) → r ≡ Err no → let other : Judged B = rejected n p in other ≡ rejected no.number no.place
rejected_as e f = ap (λ (t : Rejected). rejected t.number t.place) (err_is e f)

-- a reader's answer, taken apart

module _ {A V : Type 0} (code : A → V) where
  pub told_got : (o : Read A) {c : V} {next : ℕ} → Ok (c, next) ≡ told code o → (x : A) × (o ≡ got x next) × (c ≡ code x)
  told_got (got x m) p = (x, ap (got x) (place_is p refl), sym (value_is p refl))
  told_got (refused n m) p = impossible cc

  pub told_refused : (o : Read A) {e : Refused} → Err e ≡ told code o → o ≡ refused e.number e.at
  told_refused (got x m) p = impossible cc
  told_refused (refused n m) p = read_refused p refl

-- What one reader refuses, the reader that begins with it refuses too: the exit of a `?`.

pub passes : {A B V W : Type 0} (code : A → V) (other : B → W) (o : Read A) (f : A → ℕ → Read B) {e : Refused} → Err e ≡ told code o → Err e ≡ told other (then o f)
passes code other (got x m) f p = impossible cc
passes code other (refused n m) f p = ap Err (err_is refl p)

-- what is returned there
pub passed : {A : Type 0} {r x : Result A Refused} {e : Refused} → IsErrAnd r (λ y. y ≡ e) → Err e ≡ x → r ≡ x
passed {r = r} is p = let q = err_from_is_err_and r is in q.1 ∙ ap Err q.2 ∙ p
