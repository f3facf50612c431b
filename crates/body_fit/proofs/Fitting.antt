-- Each way out of the test of one operand: what the two words say, and whether the one fits the other.
use Prim.Native.Nat.{ℕ, zero, suc, ◌-◌, ◌≤◌, ◌<◌}
use mathlib.Core.Path.{◌≡◌, refl, sym, ap, ◌∙◌}
use mathlib.Core.Logic.{◌⊎◌, inl, inr}
use mathlib.Core.Bool.{Bool, true, false, cond}
use native.Mathlib.Omega.{arith}
use lib.Dec.{leb}
use borrow.Author.Tests.{leb-true, leb-false}
use Rattle.scope.specs.Syntax.{Val, num, ref, Types}
use Rattle.scope.specs.Order.{it_fits, but_for_null, unfit, made_non_null, val_fit}
use Rattle.scope.specs.BodyRules.{Wanted, any_value}
use Rattle.scope.specs.Bodies.{Operand, known, unknown, unknown_reference, is_reference, fits, fit}
use Rattle.scope.proofs.Truths.{decided}
use Rattle.scope.proofs.Order.{value_below_reflexive}
use Rattle.type_table.specs.View.{val_at_code}
use Rattle.type_table.proofs.Codes.{val_number, val_ref}
use Rattle.type_fit.specs.declared.Fit.{Fit}
use Rattle.type_fit.specs.declared.Fit
use Rattle.type_fit.specs.Outcomes.{fit_is}
use Rattle.body_state.specs.State.{operand_at_code, wanted_at_code}
use Rattle.body_words.proofs.Laws.{known_word, value_word}

-- the words of references begin at 6
reference_word : {c : ℕ} → (c ≡ 0 → ⊥) → (c ≡ 1 → ⊥) → leb 6 c ≡ is_reference (val_at_code (c - 2))
reference_word {c} a b = go (decided (leb 6 c))
  where
    go : (leb 6 c ≡ true) ⊎ (leb 6 c ≡ false) → leb 6 c ≡ is_reference (val_at_code (c - 2))
    go (inl t) =
        let large : 6 ≤ c = leb-true 6 c t in let from : 4 ≤ c - 2 = omega arith in t ∙ sym (ap is_reference (val_ref from))
    go (inr f) =
        let small : c < 6 = leb-false 6 c f in
        let below : c - 2 < 4 = omega (arith, a, b) in
        f ∙ sym (ap is_reference (val_number below))

-- a type made non-null is a reference where it was one
made_reference : (v : Val) → is_reference (made_non_null v) ≡ is_reference v
made_reference (num n) = refl
made_reference (ref n h) = refl

-- any operand is a value
any_fits : (ts : Types) (o : Operand) → fits ts o any_value ≡ true
unfolding fits
any_fits ts (known v) = refl
any_fits ts unknown = refl
any_fits ts unknown_reference = refl

-- the outcome of an operand that fits
fitted : (ts : Types) (o : Operand) (w : Wanted) → fits ts o w ≡ true → Fit.TheVariants.Fits ≡ fit_is (fit ts o w)
unfolding fit
fitted ts o w e = rw e

-- as a reference or not at all
referring : (b : Bool) {r : Fit} → r ≡ fit_is (cond b it_fits unfit) → r ≡ fit_is (cond b it_fits (cond b but_for_null unfit))
referring true e = e
referring false e = e

-- whatever a word says, it fits itself
itself-fits : (ts : Types) (c : ℕ) → fits ts (operand_at_code c) (wanted_at_code c) ≡ true
unfolding fits operand_at_code wanted_at_code
itself-fits ts zero = refl
itself-fits ts (suc zero) = refl
itself-fits ts (suc (suc n)) =
    let some : suc (suc n) ≡ 0 → ⊥ = λ q. absurd (omega (arith, q)) in
    let more : suc (suc n) ≡ 1 → ⊥ = λ q. absurd (omega (arith, q)) in
    rw (known_word some more, value_word some more) (value_below_reflexive ts (val_at_code (suc (suc n) - 2)))

module _ (ts : Types) (o w : ℕ) where
  pub fits_same : o ≡ w → Fit.TheVariants.Fits ≡ fit_is (fit ts (operand_at_code o) (wanted_at_code w))
  fits_same e = rw (← e) (fitted ts (operand_at_code o) (wanted_at_code o) (itself-fits ts o))

  pub fits_unknown : o ≡ 0 → Fit.TheVariants.Fits ≡ fit_is (fit ts (operand_at_code o) (wanted_at_code w))
  unfolding fits operand_at_code
  fits_unknown e = fitted ts (operand_at_code o) (wanted_at_code w) (rw e)

  pub fits_any : w ≡ 0 → Fit.TheVariants.Fits ≡ fit_is (fit ts (operand_at_code o) (wanted_at_code w))
  unfolding wanted_at_code
  fits_any e = fitted ts (operand_at_code o) (wanted_at_code w) (rw e (any_fits ts (operand_at_code o)))

  module _ (e : o ≡ 1) where
    pub fits_reference : w ≡ 1 → Fit.TheVariants.Fits ≡ fit_is (fit ts (operand_at_code o) (wanted_at_code w))
    unfolding fits operand_at_code wanted_at_code
    fits_reference f = fitted ts (operand_at_code o) (wanted_at_code w) (rw (e, f))

    pub fits_by_code : (w ≡ 0 → ⊥) → (w ≡ 1 → ⊥) → {r : Fit} → r ≡ fit_is (cond (leb 6 w) it_fits unfit) → r ≡ fit_is (fit ts (operand_at_code o) (wanted_at_code w))
    unfolding fit fits operand_at_code
    fits_by_code a b p = rw (e, value_word a b, ← reference_word a b) (referring (leb 6 w) p)

  module _ (a : o ≡ 0 → ⊥) (b : o ≡ 1 → ⊥) where
    pub fits_any_reference : w ≡ 1 → {r : Fit} → r ≡ fit_is (cond (leb 6 o) it_fits unfit) → r ≡ fit_is (fit ts (operand_at_code o) (wanted_at_code w))
    unfolding fit fits wanted_at_code
    fits_any_reference f p = rw (f, known_word a b, made_reference (val_at_code (o - 2)), ← reference_word a b) (referring (leb 6 o) p)

    pub fits_by_type : (w ≡ 0 → ⊥) → (w ≡ 1 → ⊥) → {r : Fit} → r ≡ fit_is (val_fit ts (val_at_code (o - 2)) (val_at_code (w - 2))) → r ≡ fit_is (fit ts (operand_at_code o) (wanted_at_code w))
    unfolding fit fits val_fit
    fits_by_type c d e = rw (known_word a b, value_word c d) e

pub ruleset fit_exits = (fits_same, fits_unknown, fits_any, fits_reference, fits_by_code, fits_any_reference, fits_by_type)

-- as a reference

pub reference_fits : {b : Bool} → b ≡ true → Fit.TheVariants.Fits ≡ fit_is (cond b it_fits unfit)
reference_fits e = rw e

pub number_unfit : {b : Bool} → b ≡ false → Fit.TheVariants.Unfit ≡ fit_is (cond b it_fits unfit)
number_unfit e = rw e

pub ruleset reference_exits = (reference_fits, number_unfit)
