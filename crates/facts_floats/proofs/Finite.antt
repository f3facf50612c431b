-- "Each float result is rounded once": where both operands are numbers, zeros among them, the result is the exact one rounded
-- once. A sum and a product are whole numbers of units, a quotient is met by cross products.
use Prim.Native.Nat.{ℕ, ◌+◌, ◌-◌, ◌*◌, ◌<◌}
use native.Mathlib.Nat.{zero-lt-suc, le_of_lt}
use native.Mathlib.Omega.{arith}
use mathlib.Core.Path.{◌≡◌}
use mathlib.Core.Bool.{true, false, beq}
use lib.Pow.{pow_pos}
use borrow.Author.Tests.{lt-ltb, le-ltb, eqb-false}
use Rattle.scope.specs.Rounding.{Width, one}
use Rattle.scope.specs.Floats.{negative, magnitude, units_of, is_zero, float_add, float_mul, float_div, Finite, RoundedOnce}
use Rattle.facts_floats.specs.Standard.{Proper, sign_of}
use Rattle.facts_floats.proofs.Signs.{and_true, unlike_sign}
use Rattle.facts_floats.proofs.Forms.{units_pos}
use Rattle.facts_floats.proofs.Once.{once}

module _ (w : Width) (proper : Proper w) {a b : ℕ} (fa : Finite w a) (fb : Finite w b) where
  pub product_once : RoundedOnce w (sign_of (negative w a) (negative w b)) (units_of w a * units_of w b) (one w) (float_mul w a b)
  unfolding float_mul
  product_once =
      rw (fa.number, fb.number, fa.finite, fb.finite, unlike_sign (negative w a) (negative w b))
      (once w proper (sign_of (negative w a) (negative w b)) (units_of w a * units_of w b) (one w) (pow_pos _))

  pub quotient_once : is_zero w b ≡ false → RoundedOnce w (sign_of (negative w a) (negative w b)) (units_of w a * one w) (units_of w b) (float_div w a b)
  unfolding float_div
  quotient_once z =
      rw (fa.number, fb.number, fa.finite, fb.finite, z, unlike_sign (negative w a) (negative w b))
      (once w proper (sign_of (negative w a) (negative w b)) (units_of w a * one w) (units_of w b) (units_pos w (some (eqb-false (magnitude w b) 0 z))))
    where
      some : {m : ℕ} → (m ≡ 0 → ⊥) → 0 < m
      some h = omega arith

  -- of equal signs; of opposite ones, the first or the second the greater. Where neither is, the sum is +0 (`add_cancels`).
  pub sum_once_alike : beq (negative w a) (negative w b) ≡ true → RoundedOnce w (negative w a) (units_of w a + units_of w b) 1 (float_add w a b)
  unfolding float_add
  sum_once_alike e =
      rw (fa.number, fb.number, fa.finite, fb.finite, e) (once w proper (negative w a) (units_of w a + units_of w b) 1 (zero-lt-suc 0))

  module _ (e : beq (negative w a) (negative w b) ≡ false) where
    pub sum_once_first : units_of w b < units_of w a → RoundedOnce w (negative w a) (units_of w a - units_of w b) 1 (float_add w a b)
    unfolding float_add
    sum_once_first l =
        rw (fa.number, fb.number, fa.finite, fb.finite, e, le-ltb (units_of w a) (units_of w b) (le_of_lt l), lt-ltb (units_of w b) (units_of w a) l, and_true (negative w a))
        (once w proper (negative w a) (units_of w a - units_of w b) 1 (zero-lt-suc 0))

    pub sum_once_second : units_of w a < units_of w b → RoundedOnce w (negative w b) (units_of w b - units_of w a) 1 (float_add w a b)
    unfolding float_add
    sum_once_second l =
        rw (fa.number, fb.number, fa.finite, fb.finite, e, lt-ltb (units_of w a) (units_of w b) l)
        (once w proper (negative w b) (units_of w b - units_of w a) 1 (zero-lt-suc 0))
