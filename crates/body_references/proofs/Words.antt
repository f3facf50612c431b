-- The words of the two results: a reference that is not null, and a descriptor's.
use Prim.Native.Nat.{ℕ, ◌+◌, ◌-◌, ◌*◌, ◌/◌, ◌%◌, ◌≤◌, ◌<◌}
use mathlib.Core.Path.{◌≡◌, refl, sym, ap, ◌∙◌}
use mathlib.Core.Bool.{Bool, true, false, cond}
use native.Mathlib.Omega.{arith}
use lib.Dec.{eqb}
use borrow.Author.Tests.{ne_eqb, eqb-true, eqb-false}
use Rattle.scope.specs.Syntax.{defined, exact, Val, num, ref, nullable, non_null, Types}
use Rattle.scope.specs.Order.{it_fits, but_for_null, unfit}
use Rattle.scope.specs.Order.{Fit as Outcome}
use Rattle.scope.specs.BodyRules.{Wanted, value}
use Rattle.scope.specs.Bodies.{Operand, known, non_null_of, fits, fit}
use Rattle.scope.specs.Memory.{val_code}
use Rattle.type_table.specs.View.{is_odd, number_at, heap_at_code, val_at_code}
use Rattle.type_table.proofs.Codes.{val_number, val_ref}
use Rattle.type_table.proofs.CodesBack.{val_code_lem}
use Rattle.type_fit.specs.declared.Fit.{Fit}
use Rattle.type_fit.specs.declared.Fit
use Rattle.type_fit.specs.Outcomes.{fit_is}
use Rattle.type_fit.proofs.Outcomes.{is_fits, is_but_for_null, is_unfit}
use Rattle.body_state.specs.State.{operand_at_code, wanted_at_code}
use Rattle.body_words.proofs.Laws.{known_word, value_word}

-- a word of a reference

unknown_reference_lem : operand_at_code 1 ≡ non_null_of (operand_at_code 1)
unfolding operand_at_code
unknown_reference_lem = refl

ref_word : {o : ℕ} → 6 ≤ o → operand_at_code o ≡ known (ref (is_odd o) (heap_at_code ((o - 6) / 2)))
ref_word {o} h =
    let odd : (o - 2) % 2 ≡ o % 2 = omega arith in
    let half : (o - 2 - 4) / 2 ≡ (o - 6) / 2 = omega arith in
    known_word (λ e. omega arith) (λ e. omega arith) ∙ ap known (val_ref (omega arith)) ∙ rw (odd, half)

pub unknown_non_null : {o : ℕ} → o ≡ 0 → operand_at_code 1 ≡ non_null_of (operand_at_code o)
unfolding operand_at_code
unknown_non_null e = rw e refl

pub number_non_null : (o : ℕ) → (o ≡ 0 → ⊥) → o < 6 → operand_at_code o ≡ non_null_of (operand_at_code o)
number_non_null o g h = go (eqb o 1) refl
  where
    go : (b : Bool) → eqb o 1 ≡ b → operand_at_code o ≡ non_null_of (operand_at_code o)
    go true e = let z : o ≡ 1 = eqb-true o 1 e in rw z unknown_reference_lem
    go false e = let w : operand_at_code o ≡ known (num (number_at (o - 2))) = known_word g (eqb-false o 1 e) ∙ ap known (val_number (omega arith)) in rw w

pub odd_non_null : (o : ℕ) → 6 ≤ o → o % 2 ≡ 1 → operand_at_code (o - 1) ≡ non_null_of (operand_at_code o)
odd_non_null o h e =
    let even : (o - 1) % 2 ≡ 0 = omega arith in
    let half : (o - 1 - 6) / 2 ≡ (o - 6) / 2 = omega arith in
    rw (ref_word h, ref_word {o = o - 1} (omega arith), even, half) refl

pub even_non_null : (o : ℕ) → 6 ≤ o → (o % 2 ≡ 1 → ⊥) → operand_at_code o ≡ non_null_of (operand_at_code o)
even_non_null o h e = rw (ref_word h, ne_eqb (o % 2) 1 e)

-- a descriptor's word

pub word_of : (v : Val) → operand_at_code (2 + val_code v) ≡ known v
word_of v =
    let same : 2 + val_code v - 2 ≡ val_code v = omega arith in
    known_word (λ e. omega arith) (λ e. omega arith) ∙ ap (λ (c : ℕ). known (val_at_code c)) same ∙ ap known (val_code_lem v)

pub wanted_of : (v : Val) → wanted_at_code (2 + val_code v) ≡ value v
wanted_of v =
    let same : 2 + val_code v - 2 ≡ val_code v = omega arith in
    value_word (λ e. omega arith) (λ e. omega arith) ∙ ap (λ (c : ℕ). value (val_at_code c)) same ∙ ap value (val_code_lem v)

abbrev is_first : Outcome → Bool
is_first it_fits = true
is_first but_for_null = false
is_first unfit = false

-- what an operand's outcome says of whether it fits
fit-tested : (ts : Types) (o : Operand) (w : Wanted) (f : Outcome) → fit ts o w ≡ f → fits ts o w ≡ is_first f
unfolding fit
fit-tested ts o w f e = go (fits ts o w) (fits ts (non_null_of o) w) e
  where
    go : (b c : Bool) → cond b it_fits (cond c but_for_null unfit) ≡ f → b ≡ is_first f
    go true c e = ap is_first e
    go false true e = ap is_first e
    go false false e = ap is_first e

module _ (ts : Types) (o x y : ℕ) {r : Fit} (a : r ≡ fit_is (fit ts (operand_at_code o) (wanted_at_code (2 + (5 + 2 * (11 + 2 * x)))))) where
  asked : r ≡ fit_is (fit ts (operand_at_code o) (value (nullable (exact x))))
  asked = a ∙ ap (λ (w : Wanted). fit_is (fit ts (operand_at_code o) w)) (ap wanted_at_code (let e : 2 + (5 + 2 * (11 + 2 * x)) ≡ 2 + val_code (nullable (exact x)) = omega arith in e) ∙ wanted_of (nullable (exact x)))

  pub exact_descriptor : r ≡ Fit.TheVariants.Fits → operand_at_code (2 + (4 + 2 * (11 + 2 * y))) ≡ known (non_null (cond (fits ts (operand_at_code o) (value (nullable (exact x)))) (exact y) (defined y)))
  exact_descriptor e =
      let w : 2 + (4 + 2 * (11 + 2 * y)) ≡ 2 + val_code (non_null (exact y)) = omega arith in
      let yes' = fit-tested ts (operand_at_code o) (value (nullable (exact x))) it_fits (is_fits _ (sym e ∙ asked)) in
      rw (yes', w) (word_of (non_null (exact y)))

  plain : fits ts (operand_at_code o) (value (nullable (exact x))) ≡ false → operand_at_code (2 + (4 + 2 * (10 + 2 * y))) ≡ known (non_null (cond (fits ts (operand_at_code o) (value (nullable (exact x)))) (exact y) (defined y)))
  plain no' = let w : 2 + (4 + 2 * (10 + 2 * y)) ≡ 2 + val_code (non_null (defined y)) = omega arith in rw (no', w) (word_of (non_null (defined y)))

  pub nullable_descriptor : r ≡ Fit.TheVariants.ButForNull → operand_at_code (2 + (4 + 2 * (10 + 2 * y))) ≡ known (non_null (cond (fits ts (operand_at_code o) (value (nullable (exact x)))) (exact y) (defined y)))
  nullable_descriptor e = plain (fit-tested ts (operand_at_code o) (value (nullable (exact x))) but_for_null (is_but_for_null _ (sym e ∙ asked)))

  pub plain_descriptor : r ≡ Fit.TheVariants.Unfit → operand_at_code (2 + (4 + 2 * (10 + 2 * y))) ≡ known (non_null (cond (fits ts (operand_at_code o) (value (nullable (exact x)))) (exact y) (defined y)))
  plain_descriptor e = plain (fit-tested ts (operand_at_code o) (value (nullable (exact x))) unfit (is_unfit _ (sym e ∙ asked)))

pub ruleset word_exits = (unknown_non_null, number_non_null, odd_non_null, even_non_null, exact_descriptor, nullable_descriptor, plain_descriptor)
