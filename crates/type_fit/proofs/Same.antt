-- Value types by their codes: the test of the order goes by how the codes were read, and two value types are identical
-- when their codes are equal, since each type has one code.
use Prim.Native.Nat.{ℕ}
use mathlib.Core.Path.{◌≡◌, refl, sym, ap, ◌∙◌}
use mathlib.Core.Bool.{Bool, true, false, not}
use mathlib.Core.Logic.{◌⊎◌, inl, inr}
use borrow.Author.Tests.{ne_eqb, eqb-true, eqb-false, not-true, not-false}
use lib.Dec.{eqb}
use Rattle.scope.specs.Syntax.{Heap, Number, Val, num, ref, Types}
use Rattle.scope.specs.Memory.{val_code}
use Rattle.scope.specs.Order.{number_code, heap_below, val_below, val_fit, same_val}
use Rattle.scope.proofs.Truths.{decided}
use Rattle.scope.proofs.Order.{value_below_reflexive}
use Rattle.scope.proofs.Identity.{same_value_equal, value_same}
use Rattle.type_table.specs.View.{heap_at_code, val_at_code}
use Rattle.type_table.specs.declared.ValKind.{ValKind}
use Rattle.type_table.specs.declared.ValKind
use Rattle.type_table.specs.Answers.{val_is}
use Rattle.type_table.proofs.Codes.{val_code-at}
use Rattle.type_table.proofs.Laws.{is_number, is_ref}
use Rattle.type_fit.specs.declared.Fit.{Fit}
use Rattle.type_fit.specs.declared.Fit
use Rattle.type_fit.specs.Outcomes.{fit_is}

-- a reference against a value type that was read

module _ (ts : Types) (nullable : Bool) (h : Heap) (w : Val) {u : ValKind} (e : u ≡ val_is w) where
  pub ref_against_number : {c : ℕ} → u ≡ ValKind.TheVariants.Number c → Fit.TheVariants.Unfit ≡ fit_is (val_fit ts (ref nullable h) w)
  unfolding val_fit val_below
  ref_against_number q = rw (is_number w e q).1

  module _ {m : Bool} {k : ℕ} (q : u ≡ ValKind.TheVariants.Ref m k) {below : Bool} (p : below ≡ heap_below ts h (heap_at_code k)) where
    pub heaps_apart : not below ≡ true → Fit.TheVariants.Unfit ≡ fit_is (val_fit ts (ref nullable h) w)
    unfolding val_fit val_below
    heaps_apart t = rw (is_ref w e q) (go nullable m (sym p ∙ not-true below t))
      where
        go : (n o : Bool) → heap_below ts h (heap_at_code k) ≡ false → Fit.TheVariants.Unfit ≡ fit_is (val_fit ts (ref n h) (ref o (heap_at_code k)))
        go true true f = rw f
        go true false f = rw f
        go false true f = rw f
        go false false f = rw f

    module _ (t : not below ≡ false) where
      below_it_lem : heap_below ts h (heap_at_code k) ≡ true
      below_it_lem = sym p ∙ not-false below t

      pub null_taken : m ≡ true → Fit.TheVariants.Fits ≡ fit_is (val_fit ts (ref nullable h) w)
      unfolding val_fit val_below
      null_taken f = rw (is_ref w e q, f) (go nullable)
        where
          go : (n : Bool) → Fit.TheVariants.Fits ≡ fit_is (val_fit ts (ref n h) (ref true (heap_at_code k)))
          go true = rw below_it_lem
          go false = rw below_it_lem

      pub only_null_wrong : m ≡ false → nullable ≡ true → Fit.TheVariants.ButForNull ≡ fit_is (val_fit ts (ref nullable h) w)
      unfolding val_fit val_below
      only_null_wrong f n = rw (is_ref w e q, f, n, below_it_lem)

      pub never_null : m ≡ false → nullable ≡ false → Fit.TheVariants.Fits ≡ fit_is (val_fit ts (ref nullable h) w)
      unfolding val_fit val_below
      never_null f n = rw (is_ref w e q, f, n, below_it_lem)

pub ruleset ref_exits = (ref_against_number, heaps_apart, null_taken, only_null_wrong, never_null)

-- value types by their codes

pub val_itself : (ts : Types) (a b : ℕ) → a ≡ b → Fit.TheVariants.Fits ≡ fit_is (val_fit ts (val_at_code a) (val_at_code b))
unfolding val_fit
val_itself ts a b e = rw (e, value_below_reflexive ts (val_at_code b))

number-below-itself : (ts : Types) (n : Number) (w : Val) → (val_code (num n) ≡ val_code w → ⊥) → val_below ts (num n) w ≡ false
unfolding val_below
number-below-itself ts n (num m) other = ne_eqb (number_code n) (number_code m) other
number-below-itself ts n (ref m k) other = refl

module _ (ts : Types) (a b : ℕ) (other : a ≡ b → ⊥) {l : ValKind} (e : l ≡ val_is (val_at_code a)) where
  pub number-fits-no_other : {c : ℕ} → l ≡ ValKind.TheVariants.Number c → Fit.TheVariants.Unfit ≡ fit_is (val_fit ts (val_at_code a) (val_at_code b))
  unfolding val_fit
  number-fits-no_other q =
      let (n, is, code) = is_number (val_at_code a) e q in
      let apart = number-below-itself ts n (val_at_code b) (λ same. other (sym (val_code-at a) ∙ ap val_code is ∙ same ∙ val_code-at b)) in
      rw (is, apart)

  pub ref_fits : {n : Bool} {h : ℕ} {r : Fit} → l ≡ ValKind.TheVariants.Ref n h → r ≡ fit_is (val_fit ts (ref n (heap_at_code h)) (val_at_code b)) → r ≡ fit_is (val_fit ts (val_at_code a) (val_at_code b))
  ref_fits q p = rw (is_ref (val_at_code a) e q) p

pub ruleset val_exits = (val_itself, number-fits-no_other, ref_fits)

-- identical types

pub same_by_code : (a b : ℕ) → eqb a b ≡ same_val (val_at_code a) (val_at_code b)
same_by_code a b = go (decided (eqb a b)) (decided (same_val (val_at_code a) (val_at_code b)))
  where
    go : (eqb a b ≡ true) ⊎ (eqb a b ≡ false) → (same_val (val_at_code a) (val_at_code b) ≡ true) ⊎ (same_val (val_at_code a) (val_at_code b) ≡ false) → eqb a b ≡ same_val (val_at_code a) (val_at_code b)
    go (inl p) other = p ∙ rw (eqb-true a b p) (sym (value_same (val_at_code b)))
    go (inr p) (inl q) = absurd (eqb-false a b p (sym (val_code-at a) ∙ ap val_code (same_value_equal _ _ q) ∙ val_code-at b))
    go (inr p) (inr q) = p ∙ sym q
