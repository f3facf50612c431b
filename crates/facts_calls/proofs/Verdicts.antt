-- An answer taken apart: which verdict it was made of. And a call's verdict by its lent memory: the verdict on its input where
-- the buffers suffice, 14 at 0 where one is short.
use Prim.Native.Nat.{ℕ}
use mathlib.Core.Path.{◌≡◌, refl, sym}
use mathlib.Core.Bool.{Bool, true, false}
use mathlib.Core.List.{List}
use Rattle.scope.specs.declared.Rejected.{Rejected}
use Rattle.std.specs.Prelude.{Ok, Err}
use Rattle.scope.specs.declared.Ran.{Ran}
use Rattle.scope.specs.declared.Ran
use Rattle.scope.specs.Refusals.{buffer_too_small}
use Rattle.scope.specs.declared.Place.{Place}
use Rattle.scope.proofs.Told.{rejected_as}
use Rattle.scope.specs.Judging.{plain, Judged, accepted, rejected}
use Rattle.scope.specs.Running.{Ending, done, trapped, spent, wrong, Trial}
use Rattle.scope.specs.Answers.{lent_enough, verdict_of, ran_as, ran_of}
use Rattle.scope.proofs.Impossible.{contradiction}

pub same_accepted : {A : Type 0} {x y : A} → accepted x ≡ accepted y → x ≡ y
same_accepted e = cc

pub accepted_is_not_rejected : {A : Type 0} {x : A} {n : ℕ} {p : Place} → accepted x ≡ rejected n p → ⊥
accepted_is_not_rejected e = contradiction cc

module _ {A : Type 0} (count : A → ℕ) where
  pub verdict-yes : (j : Judged A) {n : ℕ} → verdict_of count j ≡ Ok n → (x : A) × (j ≡ accepted x) × (count x ≡ n)
  verdict-yes (accepted x) {n} e = let same : count x ≡ n = cc in (x, refl, same)
  verdict-yes (rejected k p) e = absurd (contradiction cc)

  pub verdict-no : (j : Judged A) {no : Rejected} → verdict_of count j ≡ Err no → j ≡ rejected no.number no.place
  verdict-no (accepted x) e = absurd (contradiction cc)
  verdict-no (rejected k q) e = rejected_as refl e

module _ (s : List ℕ) where
  ended_is_not_refused : (e : Ending) {n : ℕ} {p : Place} → ran_as s e ≡ Ran.TheVariants.Refused n p → ⊥
  ended_is_not_refused (done steps m) f = contradiction cc
  ended_is_not_refused (trapped number steps m) f = contradiction cc
  ended_is_not_refused (spent steps m) f = contradiction cc
  ended_is_not_refused (wrong steps m) f = contradiction cc

  pub ran_no : (j : Judged Trial) {n : ℕ} {p : Place} → ran_of s j ≡ Ran.TheVariants.Refused n p → j ≡ rejected n p
  ran_no (accepted t) e = absurd (ended_is_not_refused t.ending e)
  ran_no (rejected k q) {n} {p} e = let number : k ≡ n = cc in let place : q ≡ p = cc in rw (number, place)

-- by lent memory

module _ {A : Type 0} (lent : Bool) (j : Judged A) where
  pub lent-yes : {x : A} → lent_enough lent j ≡ accepted x → (lent ≡ true) × (j ≡ accepted x)
  lent-yes {x} e = go lent refl e
    where
      go : (t : Bool) → lent ≡ t → lent_enough t j ≡ accepted x → (lent ≡ true) × (j ≡ accepted x)
      go true q f = (q, f)
      go false q f = absurd (accepted_is_not_rejected (sym f))

  pub lent-call : lent ≡ true → lent_enough lent j ≡ j
  lent-call e = rw e

  pub short_call : lent ≡ false → lent_enough lent j ≡ rejected buffer_too_small (plain 0)
  short_call e = rw e

  -- a no is 14 at 0 of a short buffer, or the input's own
  pub lent-no : {C : Type 0} {n : ℕ} {p : Place} → lent_enough lent j ≡ rejected n p → (lent ≡ false → p ≡ plain 0 → C) → (lent ≡ true → j ≡ rejected n p → C) → C
  lent-no {C} {n} {p} e short own = go lent refl e
    where
      go : (t : Bool) → lent ≡ t → lent_enough t j ≡ rejected n p → C
      go true q f = own q f
      go false q f = let place : p ≡ plain 0 = cc in short q place
