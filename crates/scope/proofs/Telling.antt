-- What holds of whatever a rule allows, a reader gives or a verdict accepts. A rule, a reader and a verdict are put together
-- from tests, from parts that may be missing and from one after the other; whatever comes out passed each of them, in order.
-- So a law about the outcome is written along the definition itself, and has every test that passed at hand.
use Rattle.scope.specs.declared.Place.{Place}
use Prim.Native.Nat.{ℕ}
use mathlib.Core.Path.{◌≡◌, refl, subst}
use mathlib.Core.Bool.{Bool, true, false, cond}
use mathlib.Core.Option.{Option, none, some}
use Rattle.scope.specs.Reading.{Read, got, refused, given, then}
use Rattle.scope.specs.Judging.{Judged, accepted, rejected, and_then}
use Rattle.scope.specs.BodyRules.{Ruled, allowed, fault, test, need, and_ruled}
use Rattle.scope.specs.Bodies.{State, Next, goes_on, finished, on_ruled, on_next, judged_of}
use Rattle.scope.proofs.Impossible.{contradiction}

-- rules

pub allowed_is_one : {A : Type 0} {x y : A} → allowed x ≡ allowed y → x ≡ y
allowed_is_one e = cc

fault_allows_nothing : {A : Type 0} {n : ℕ} {x : A} → fault n ≡ allowed x → ⊥
fault_allows_nothing e = contradiction cc

pub record Allows {A : Type 0} (P : A → Type 0) (r : Ruled A) : Type 0 where
  pub tells : (x : A) → r ≡ allowed x → P x

module _ {A : Type 0} {P : A → Type 0} where
  pub this : {x : A} → P x → Allows P (allowed x)
  this h = record { tells = λ y e. subst P (allowed_is_one e) h }

  pub nothing : {n : ℕ} → Allows P (fault n)
  nothing = record { tells = λ y e. absurd (fault_allows_nothing e) }

  pub after_test : (b : Bool) (n : ℕ) {more : Ruled A} → (b ≡ true → Allows P more) → Allows P (test b n more)
  after_test true n k = k refl
  after_test false n k = nothing

  -- a test that nothing afterwards rests on
  pub past_test : (b : Bool) (n : ℕ) {more : Ruled A} → Allows P more → Allows P (test b n more)
  past_test b n more = after_test b n (λ e. more)

  pub after-need : {B : Type 0} (o : Option B) (n : ℕ) {f : B → Ruled A} → ((y : B) → o ≡ some y → Allows P (f y)) → Allows P (need o n f)
  after-need none n k = nothing
  after-need (some y) n k = k y refl

  pub after-and : {B : Type 0} {Q : B → Type 0} (r : Ruled B) {f : B → Ruled A} → Allows Q r → ((y : B) → Q y → Allows P (f y)) → Allows P (and_ruled r f)
  after-and (allowed y) q k = k y (q.tells y refl)
  after-and (fault n) q k = nothing

-- nothing is said of it
pub whatever : {A : Type 0} {r : Ruled A} → Allows (λ x. Unit {0}) r
whatever = record { tells = λ x e. tt }

-- readers

got_is_one : {A : Type 0} {x y : A} {p q : ℕ} → got x p ≡ got y q → x ≡ y
got_is_one e = cc

refused_is_not_got : {A : Type 0} {n p : ℕ} {x : A} {q : ℕ} → refused n p ≡ got x q → ⊥
refused_is_not_got e = contradiction cc

pub record Gives {A : Type 0} (P : A → Type 0) (r : Read A) : Type 0 where
  pub tells : (x : A) (stop : ℕ) → r ≡ got x stop → P x

module _ {A : Type 0} {P : A → Type 0} where
  pub gives_this : {x : A} {p : ℕ} → P x → Gives P (got x p)
  gives_this h = record { tells = λ y stop e. subst P (got_is_one e) h }

  pub gives_nothing : {n p : ℕ} → Gives P (refused n p)
  gives_nothing = record { tells = λ y stop e. absurd (refused_is_not_got e) }

  pub gives_then : {B : Type 0} (r : Read B) {f : B → ℕ → Read A} → ((x : B) (p : ℕ) → r ≡ got x p → Gives P (f x p)) → Gives P (then r f)
  gives_then (got x p) k = k x p refl
  gives_then (refused n p) k = gives_nothing

  pub gives_either : (t : Bool) {a b : Read A} → Gives P a → Gives P b → Gives P (cond t a b)
  gives_either true a b = a
  gives_either false a b = b

  pub gives_ruled : {B : Type 0} (r : Ruled B) (at : ℕ) {f : B → Read A} → ((x : B) → r ≡ allowed x → Gives P (f x)) → Gives P (on_ruled r (λ number. refused number at) f)
  gives_ruled (allowed x) at k = k x refl
  gives_ruled (fault n) at k = gives_nothing

  pub gives_next :
      (n : Next) {f : State → Read A} {last : Read A} → ((later : State) → n ≡ goes_on later → Gives P (f later)) → (n ≡ finished → Gives P last)
      → Gives P (on_next n f last)
  gives_next (goes_on later) k l = k later refl
  gives_next finished k l = l refl

-- verdicts

accepted_is_one : {A : Type 0} {x y : A} → accepted x ≡ accepted y → x ≡ y
accepted_is_one e = cc

rejected_not_accepted : {A : Type 0} {n : ℕ} {p : Place} {x : A} → rejected n p ≡ accepted x → ⊥
rejected_not_accepted e = contradiction cc

pub record Accepting {A : Type 0} (P : A → Type 0) (j : Judged A) : Type 0 where
  pub tells : (x : A) → j ≡ accepted x → P x

module _ {A : Type 0} {P : A → Type 0} where
  pub accepts_this : {x : A} → P x → Accepting P (accepted x)
  accepts_this h = record { tells = λ y e. subst P (accepted_is_one e) h }

  pub accepts_nothing : {n : ℕ} {p : Place} → Accepting P (rejected n p)
  accepts_nothing = record { tells = λ y e. absurd (rejected_not_accepted e) }

  pub accepts_then : {B : Type 0} (j : Judged B) {f : B → Judged A} → ((x : B) → j ≡ accepted x → Accepting P (f x)) → Accepting P (and_then j f)
  accepts_then (accepted x) k = k x refl
  accepts_then (rejected n p) k = accepts_nothing

  pub accepts_either : (t : Bool) {a b : Judged A} → Accepting P a → Accepting P b → Accepting P (cond t a b)
  accepts_either true a b = a
  accepts_either false a b = b

  pub accepts_given : {B : Type 0} (o : Option B) {a : Judged A} {f : B → Judged A} → Accepting P a → ((x : B) → Accepting P (f x)) → Accepting P (given o a f)
  accepts_given none a k = a
  accepts_given (some x) a k = k x

  pub accepts_read : (r : Read A) → Gives P r → Accepting P (judged_of r)
  accepts_read (got x p) g = accepts_this (g.tells x p refl)
  accepts_read (refused n p) g = accepts_nothing
