-- What a number asked of a table answers, by the test of the number; and, taken apart, which number was asked.
use Prim.Native.Nat.{ℕ, ◌≤◌, ◌<◌}
use mathlib.Core.Path.{◌≡◌, sym, ◌∙◌}
use mathlib.Core.Bool.{Bool, true, false, cond}
use mathlib.Core.Logic.{◌⊎◌, inl, inr}
use lib.Dec.{ltb}
use borrow.Author.Tests.{lt-ltb, le-ltb, ltb-true, ltb-false}
use Rattle.scope.specs.Refusals.{out_of_reach}
use Rattle.scope.specs.Syntax.{Types}
use Rattle.scope.specs.Judging.{plain}
use Rattle.scope.specs.declared.Place.{Place}
use Rattle.scope.specs.declared.Asked.{Asked}
use Rattle.scope.specs.declared.Asked
use Rattle.scope.proofs.Truths.{decided}
use Rattle.scope.proofs.Impossible.{contradiction}
use Rattle.section_handing.specs.Handing.{asked_at}

-- where a definition's bytes lie, by the side
abbrev pub lying_at : Types → ℕ → Bool → Asked
lying_at ts x side = cond side (Asked.TheVariants.Library (ts x).from (ts x).to) (Asked.TheVariants.Addon (ts x).from (ts x).to)

asked-inside : (ts : Types) {x n : ℕ} (before : ℕ) → x < n → asked_at ts x before n ≡ lying_at ts x (ltb x before)
unfolding asked_at
asked-inside ts {x} {n} before h = rw (lt-ltb x n h)

asked_outside : (ts : Types) {x n : ℕ} (before : ℕ) → n ≤ x → asked_at ts x before n ≡ Asked.TheVariants.Refused out_of_reach (plain x)
unfolding asked_at
asked_outside ts {x} {n} before h = rw (le-ltb x n h)

-- place_of

module _ (ts : Types) {x n : ℕ} (before : ℕ) where
  pub place_library : {f t : ℕ} → x < n → x < before → f ≡ (ts x).from → t ≡ (ts x).to → Asked.TheVariants.Library f t ≡ asked_at ts x before n
  place_library h g a b = rw (asked-inside ts before h, lt-ltb x before g, a, b)

  pub place_addon : {f t : ℕ} → x < n → before ≤ x → f ≡ (ts x).from → t ≡ (ts x).to → Asked.TheVariants.Addon f t ≡ asked_at ts x before n
  place_addon h g a b = rw (asked-inside ts before h, le-ltb x before g, a, b)

  pub place_absent : n ≤ x → Asked.TheVariants.Refused out_of_reach (plain x) ≡ asked_at ts x before n
  place_absent h = sym (asked_outside ts before h)

pub ruleset place_exits = (place_library, place_addon, place_absent)

-- an answer, taken apart

pub record Absent (x n k : ℕ) (p : Place) : Type 0 where
  pub number : n ≤ x
  pub refusal : k ≡ out_of_reach
  pub place : p ≡ plain x

-- no side is a refusal
lying-not : (ts : Types) (x : ℕ) (side : Bool) {k : ℕ} {p : Place} → Asked.TheVariants.Refused k p ≡ lying_at ts x side → ⊥
lying-not ts x true e = contradiction cc
lying-not ts x false e = contradiction cc

module _ (ts : Types) (x before n : ℕ) {r : Asked} (a : r ≡ asked_at ts x before n) where
  -- an answer that is no refusal
  pub record Lies : Type 0 where
    pub number : x < n
    pub is : r ≡ lying_at ts x (ltb x before)

  inside-or : (ltb x n ≡ true) ⊎ (ltb x n ≡ false) → ((k : ℕ) (p : Place) → r ≡ Asked.TheVariants.Refused k p → ⊥) → Lies
  inside-or (inl in_table) never = let h = ltb-true x n in_table in record { number = h; is = a ∙ asked-inside ts before h }
  inside-or (inr beyond) never = absurd (never out_of_reach (plain x) (a ∙ asked_outside ts before (ltb-false x n beyond)))

  pub asked_library : {f t : ℕ} → r ≡ Asked.TheVariants.Library f t → Lies
  asked_library e = inside-or (decided (ltb x n)) (λ k p g. contradiction cc)

  pub asked_addon : {f t : ℕ} → r ≡ Asked.TheVariants.Addon f t → Lies
  asked_addon e = inside-or (decided (ltb x n)) (λ k p g. contradiction cc)

  pub asked-refusal : {k : ℕ} {p : Place} → r ≡ Asked.TheVariants.Refused k p → Absent x n k p
  asked-refusal {k} {p} e = go (decided (ltb x n))
    where
      go : (ltb x n ≡ true) ⊎ (ltb x n ≡ false) → Absent x n k p
      go (inl in_table) = absurd (lying-not ts x (ltb x before) (sym e ∙ a ∙ asked-inside ts before (ltb-true x n in_table)))
      go (inr beyond) =
          let h = ltb-false x n beyond in
          let same : Asked.TheVariants.Refused k p ≡ Asked.TheVariants.Refused out_of_reach (plain x) = sym e ∙ a ∙ asked_outside ts before h in
          record { number = h; refusal = cc; place = cc }
