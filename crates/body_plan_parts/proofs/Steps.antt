-- Tests one after the other: a rule that goes on with what was found asks first whether it is found.
use Prim.Native.Nat.{ℕ}
use mathlib.Core.Path.{◌≡◌, refl}
use mathlib.Core.Bool.{Bool, true, false}
use mathlib.Core.Option.{Option, none, some}
use Rattle.scope.specs.BodyRules.{Ruled, allowed, fault, test, need, and_ruled}

pub found_then : {A B : Type 0} (b : Bool) (m : ℕ) (o : Option A) (n : ℕ) (f : A → Ruled B) → test b m (need o n f) ≡ and_ruled (test b m (need o n allowed)) f
found_then true m none n f = refl
found_then true m (some x) n f = refl
found_then false m o n f = refl

pub need-then : {A B C : Type 0} (r : Ruled A) (o : A → Option B) (n : ℕ) (f : B → Ruled C) → and_ruled r (λ x. need (o x) n f) ≡ and_ruled (and_ruled r (λ x. need (o x) n allowed)) f
need-then (fault m) o n f = refl
need-then {B = B} (allowed x) o n f = go (o x)
  where
    go : (p : Option B) → need p n f ≡ and_ruled (need p n allowed) f
    go none = refl
    go (some y) = refl

pub test-then : {A B : Type 0} (r : Ruled A) (b : Bool) (n : ℕ) (f : A → Ruled B) → and_ruled r (λ x. test b n (f x)) ≡ and_ruled (and_ruled r (λ x. test b n (allowed x))) f
test-then (fault m) b n f = refl
test-then (allowed x) true n f = refl
test-then (allowed x) false n f = refl

pub pair_then : {A B C : Type 0} (r : Ruled A) (o : Option B) (n : ℕ) (f : A → B → Ruled C) → and_ruled r (λ x. need o n (f x)) ≡ and_ruled {A = A × B} (and_ruled r (λ x. need o n (λ y. allowed (x, y)))) (λ p. f p.0 p.1)
pair_then (fault m) o n f = refl
pair_then (allowed x) none n f = refl
pair_then (allowed x) (some y) n f = refl
