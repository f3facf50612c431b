-- What is said of every value that a verdict lets through: of a rule's, of a reader's, of a judgement's. A refusal says
-- nothing, so each way of putting verdicts together keeps it.
use Prim.Native.Nat.{ℕ}
use mathlib.Core.Bool.{Bool, true, false, cond}
use mathlib.Core.Option.{Option, none, some}
use Rattle.scope.specs.Reading.{Read, got, refused, given, then}
use Rattle.scope.specs.declared.Place.{Place}
use Rattle.scope.specs.Judging.{Judged, accepted, rejected, and_then}
use Rattle.scope.specs.BodyRules.{Ruled, allowed, fault, test, and_ruled}
use Rattle.scope.specs.Bodies.{on_ruled, judged_of}

pub data Allows {A : Type 0} (P : A → Type 0) : Ruled A → Type 0 where
  allowing : {x : A} → P x → Allows P (allowed x)
  faulting : {number : ℕ} → Allows P (fault number)

pub data Reads {A : Type 0} (P : A → Type 0) : Read A → Type 0 where
  reading : {x : A} {next : ℕ} → P x → Reads P (got x next)
  refusing : {number place : ℕ} → Reads P (refused number place)

pub data Accepts {A : Type 0} (P : A → Type 0) : Judged A → Type 0 where
  accepting : {x : A} → P x → Accepts P (accepted x)
  rejecting : {number : ℕ} {place : Place} → Accepts P (rejected number place)

module _ {A : Type 0} {P : A → Type 0} where
  pub allows_test : (b : Bool) (number : ℕ) {r : Ruled A} → Allows P r → Allows P (test b number r)
  allows_test true number a = a
  allows_test false number a = faulting

  pub allows_and : {B : Type 0} (r : Ruled B) {f : B → Ruled A} → ((x : B) → Allows P (f x)) → Allows P (and_ruled r f)
  allows_and (allowed x) f = f x
  allows_and (fault n) f = faulting

  pub reads_then : {B : Type 0} {Q : B → Type 0} {r : Read B} {f : B → ℕ → Read A} → Reads Q r → ((x : B) (next : ℕ) → Q x → Reads P (f x next)) → Reads P (then r f)
  reads_then (reading q) f = f _ _ q
  reads_then refusing f = refusing

  pub reads_after : {B : Type 0} (r : Read B) {f : B → ℕ → Read A} → ((x : B) (next : ℕ) → Reads P (f x next)) → Reads P (then r f)
  reads_after (got x next) f = f x next
  reads_after (refused n p) f = refusing

  pub reads_ruled : {B : Type 0} {Q : B → Type 0} {r : Ruled B} (place : ℕ) {f : B → Read A} → Allows Q r → ((x : B) → Q x → Reads P (f x)) → Reads P (on_ruled r (λ number. refused number place) f)
  reads_ruled place (allowing q) f = f _ q
  reads_ruled place faulting f = refusing

  pub reads_cond : (b : Bool) {r other : Read A} → Reads P r → Reads P other → Reads P (cond b r other)
  reads_cond true r other = r
  reads_cond false r other = other

  pub accepts_read : {r : Read A} → Reads P r → Accepts P (judged_of r)
  accepts_read (reading q) = accepting q
  accepts_read refusing = rejecting

  pub accepts_then : {B : Type 0} (j : Judged B) {f : B → Judged A} → ((x : B) → Accepts P (f x)) → Accepts P (and_then j f)
  accepts_then (accepted x) f = f x
  accepts_then (rejected n p) f = rejecting

  pub accepts_given : {B : Type 0} (o : Option B) {other : Judged A} {f : B → Judged A} → Accepts P other → ((x : B) → Accepts P (f x)) → Accepts P (given o other f)
  accepts_given none other f = other
  accepts_given (some x) other f = f x

  pub accepts_cond : (b : Bool) {j other : Judged A} → Accepts P j → Accepts P other → Accepts P (cond b j other)
  accepts_cond true j other = j
  accepts_cond false j other = other

  pub accepted_is : {x : A} → Accepts P (accepted x) → P x
  accepted_is (accepting q) = q
