-- Where a result overflows and where it vanishes: from half a step past the greatest value on it is infinite, the half included,
-- since the greatest value is odd; up to half a unit it is zero, the half included, since zero is even.
use Prim.Native.Nat.{ℕ, zero, suc, ◌+◌, ◌-◌, ◌*◌, ◌%◌, ◌^◌, ◌≤◌, ◌<◌}
use native.Mathlib.Nat.{le_trans, lt_of_lt_of_le, lt_irrefl, le_antisymm, eq-or-lt_of_le, le_of_suc-le-suc, one-mul, mul-lt-mul_of_pos_right, mul_left_comm, pow-succ'}
use native.Mathlib.Omega.{arith}
use mathlib.Core.Path.{◌≡◌, refl, sym, ap, ◌∙◌}
use mathlib.Core.Logic.{inl, inr}
use lib.Pow.{pow_pos}
use Rattle.scope.specs.Rounding.{Width, infinite, units, rounded}
use Rattle.facts_floats.specs.Halfway.{Halfway, twice_halfway}
use Rattle.facts_floats.specs.Standard.{Proper}
use Rattle.scope.proofs.Units.{units-low, units_lt}
use Rattle.facts_floats.proofs.Halfway.{rounded_halfway}
use Rattle.facts_floats.proofs.Forms.{infinite_pos, units-zero}

module _ (w : Width) (proper : Proper w) where
  greatest : suc (infinite w - 1) ≡ infinite w
  greatest = back (infinite w) (infinite_pos w proper)
    where
      back : (x : ℕ) → 0 < x → suc (x - 1) ≡ x
      back x h = omega arith

  infinite_even : infinite w % 2 ≡ 0
  infinite_even = go w.digits proper.some_digit
    where
      twice : (x : ℕ) → 2 * x % 2 ≡ 0
      twice x = omega arith

      go : (g : ℕ) → 0 < g → (2 ^ w.exponent - 1) * 2 ^ g % 2 ≡ 0
      go zero h = absurd (omega arith)
      go (suc g) h = rw (pow-succ' 2 g, mul_left_comm (2 ^ w.exponent - 1) 2 (2 ^ g)) (twice ((2 ^ w.exponent - 1) * 2 ^ g))

  greatest_odd : (infinite w - 1) % 2 ≡ 0 → ⊥
  greatest_odd e = apart (infinite w - 1) e (ap (λ (x : ℕ). x % 2) greatest ∙ infinite_even)
    where
      apart : (x : ℕ) → x % 2 ≡ 0 → suc x % 2 ≡ 0 → ⊥
      apart x e f = omega arith

  unit : units w 1 ≡ 1
  unit = units-low w 1 (more w.digits proper.some_digit)
    where
      more : (g : ℕ) → 0 < g → 1 < 2 ^ g
      more zero h = absurd (omega arith)
      more (suc g) h = rw (pow-succ' 2 g) (two (2 ^ g) (pow_pos g))
        where
          two : (x : ℕ) → 0 < x → 1 < 2 * x
          two x h = omega arith

  module _ (n d : ℕ) (D : 0 < d) where
    by_halves : Halfway w n d (rounded w n d)
    by_halves = rounded_halfway w n d D proper.some_digit

    further : {m r : ℕ} → m < r → twice_halfway w d m < twice_halfway w d r
    further {m} {r} h = mul-lt-mul_of_pos_right (both (units w m) (units w (suc m)) (units w r) (units w (suc r)) (units_lt w h) (units_lt w (later h))) D
      where
        both : (a b x y : ℕ) → a < x → b < y → a + b < x + y
        both a b x y h k = omega arith

        later : m < r → suc m < suc r
        later h = omega arith

    -- half a step past the greatest value, twice and times d as n is
    abbrev pub overflow_at : ℕ
    overflow_at = twice_halfway w d (infinite w - 1)

    pub overflows : overflow_at ≤ n * 2 → rounded w n d ≡ infinite w
    overflows h = elim (eq-or-lt_of_le by_halves.within) [
      | inl e ↦ e
      | inr l ↦ elim (eq-or-lt_of_le (below l)) [
        | inl e ↦ absurd (greatest_odd (rw e at (by_halves.under_even l (le_antisymm (by_halves.under l) (rw e h)))))
        | inr k ↦ absurd (lt_irrefl (twice_halfway w d (rounded w n d)) (lt_of_lt_of_le (further k) (le_trans h (by_halves.under l))))
      ]
    ]
      where
        below : rounded w n d < infinite w → rounded w n d ≤ infinite w - 1
        below l = le_of_suc-le-suc (rw greatest l)

    pub overflows_only : rounded w n d ≡ infinite w → overflow_at ≤ n * 2
    overflows_only e = by_halves.over (infinite w - 1) (e ∙ sym greatest)

    half_unit : twice_halfway w d 0 ≡ d
    half_unit = rw (units-zero w, unit, one-mul d)

    pub vanishes : n * 2 ≤ d → rounded w n d ≡ 0
    vanishes h = go (rounded w n d) refl
      where
        odd : 1 % 2 ≡ 0 → ⊥
        odd e = omega arith

        go : (r : ℕ) → rounded w n d ≡ r → r ≡ 0
        go zero e = refl
        go (suc zero) e = absurd (odd (rw e at (by_halves.over_even 0 e (le_antisymm (rw half_unit h) (by_halves.over 0 e)))))
        go (suc (suc m)) e = absurd (lt_irrefl d (lt_of_lt_of_le (rw half_unit at (further {m = 0} {r = suc m} (omega arith))) (le_trans (by_halves.over (suc m) e) h)))

    pub vanishes_only : rounded w n d ≡ 0 → n * 2 ≤ d
    vanishes_only e = rw (e, half_unit) at (by_halves.under (rw e (infinite_pos w proper)))
