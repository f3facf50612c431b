-- What an allowed outcome tells of the steps that it was put together from: a test that passed, a value that was there, a
-- first part that was allowed. Each by the cases of what the step looks at; the way back is `rw` with the same equations.
use Prim.Native.Nat.{ℕ}
use mathlib.Core.Path.{◌≡◌, refl}
use mathlib.Core.Bool.{Bool, true, false, cond}
use mathlib.Core.Option.{Option, none, some}
use Rattle.scope.specs.Syntax.{Types}
use Rattle.scope.specs.Order.{it_fits, but_for_null, unfit}
use Rattle.scope.specs.BodyRules.{Wanted, Ruled, allowed, fault, test, need, and_ruled}
use Rattle.scope.specs.Bodies.{Operand, fits, non_null_of, fit, operand_test}
use Rattle.scope.proofs.Impossible.{contradiction}

pub fault_is_not_allowed : {A : Type 0} {n : ℕ} {x : A} → fault n ≡ allowed x → ⊥
fault_is_not_allowed e = contradiction cc

pub same_allowed : {A : Type 0} {x y : A} → allowed x ≡ allowed y → x ≡ y
same_allowed e = cc

pub test-passed : {A : Type 0} {x : A} (t : Bool) (n : ℕ) (more : Ruled A) → test t n more ≡ allowed x → (t ≡ true) × (more ≡ allowed x)
test-passed true n more e = (refl, e)
test-passed false n more e = absurd (fault_is_not_allowed e)

-- of an operand's three outcomes the first alone goes on
pub fit_passed : {A : Type 0} {x : A} (ts : Types) (o : Operand) (w : Wanted) (more : Ruled A) → operand_test (fit ts o w) more ≡ allowed x → (fits ts o w ≡ true) × (more ≡ allowed x)
unfolding fit
fit_passed {x = x} ts o w more e = go (fits ts o w) (fits ts (non_null_of o) w) e
  where
    go : (b c : Bool) → operand_test (cond b it_fits (cond c but_for_null unfit)) more ≡ allowed x → (b ≡ true) × (more ≡ allowed x)
    go true c e = (refl, e)
    go false true e = absurd (fault_is_not_allowed e)
    go false false e = absurd (fault_is_not_allowed e)

pub need_met : {A B : Type 0} {y : B} (o : Option A) (n : ℕ) (f : A → Ruled B) → need o n f ≡ allowed y → (x : A) × (o ≡ some x) × (f x ≡ allowed y)
need_met none n f e = absurd (fault_is_not_allowed e)
need_met (some x) n f e = (x, refl, e)

pub first_allowed : {A B : Type 0} {y : B} (r : Ruled A) (f : A → Ruled B) → and_ruled r f ≡ allowed y → (x : A) × (r ≡ allowed x) × (f x ≡ allowed y)
first_allowed (allowed x) f e = (x, refl, e)
first_allowed (fault n) f e = absurd (fault_is_not_allowed e)
