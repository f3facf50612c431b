-- What an outcome says by the rules: a rule has it, or the machine is stuck. The machine's ways of putting outcomes together keep
-- that, and each case has learned what was tested.
use Prim.Native.Nat.{ℕ}
use mathlib.Core.Path.{◌≡◌, refl, ap}
use mathlib.Core.Bool.{Bool, true, false, cond}
use mathlib.Core.Option.{Option, none, some}
use Rattle.scope.specs.Reading.{given}
use Rattle.scope.specs.Syntax.{Number}
use Rattle.scope.specs.Order.{same_number}
use Rattle.scope.specs.Machine.{Value, number, null, object, Outcome, stuck, on_number}
use Rattle.scope.proofs.Order.{same_number_equal}

pub data Said (R : Outcome → Type 0) : Outcome → Type 0 where
  said : {r : Outcome} → R r → Said R r
  silent : Said R stuck

pub also_said : {R S : Outcome → Type 0} {r : Outcome} → ((q : Outcome) → R q → S q) → Said R r → Said S r
also_said f (said x) = said (f _ x)
also_said f silent = silent

module _ {R : Outcome → Type 0} where
  pub on_some : {A : Type 0} (o : Option A) {f : A → Outcome} → ((x : A) → o ≡ some x → Said R (f x)) → Said R (given o stuck f)
  on_some none k = silent
  on_some (some x) k = k x refl

  pub on_test : (t : Bool) {yes' no' : Outcome} → (t ≡ true → Said R yes') → (t ≡ false → Said R no') → Said R (cond t yes' no')
  on_test true y n = y refl
  on_test false y n = n refl

  pub on_kind : (k : Number) (v : Value) {f : ℕ → Outcome} → ((a : ℕ) → v ≡ number k a → Said R (f a)) → Said R (on_number k v f)
  on_kind k (number j n) f = on_test (same_number j k) (λ e. f n (ap (λ q. number q n) (same_number_equal j k e))) (λ e. silent)
  on_kind k null f = silent
  on_kind k (object o) f = silent
