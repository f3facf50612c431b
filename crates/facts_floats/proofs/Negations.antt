-- "neg only turns the sign bit", of every pattern, a NaN's too; and sub is the sum with the second operand negated.
use Prim.Native.Nat.{ℕ, ◌+◌, ◌*◌, ◌<◌}
use native.Mathlib.Nat.{mul-pos, mod-lt}
use native.Mathlib.Omega.{arith}
use mathlib.Core.Path.{◌≡◌, sym, ap, ◌∙◌, subst}
use mathlib.Core.Bool.{Bool, true, false, cond, not}
use lib.Pow.{pow_pos}
use Rattle.scope.specs.Rounding.{Width, sign_bit}
use Rattle.scope.specs.Floats.{negative, magnitude, with_sign, float_neg, float_add, float_sub}
use Rattle.facts_floats.specs.Standard.{Proper, nan_of, Payload, Negation, turned, Difference, less_by}
use Rattle.facts_floats.proofs.Signs.{not-not}
use Rattle.facts_floats.proofs.Forms.{sign_is, magnitude_is, nan_below, lead_pos, written}
use Rattle.facts_floats.proofs.Sums.{sum_is, sum_only}

pub sign_fits : (c : ℕ) (s : Bool) (m : ℕ) → m < c → cond s c 0 + m < 2 * c
sign_fits c true m h = omega arith
sign_fits c false m h = omega arith

module _ (w : Width) where
  pub neg_turns : (s : Bool) {m : ℕ} → m < sign_bit w → float_neg w (with_sign w s m) ≡ with_sign w (not s) m
  unfolding float_neg
  neg_turns s h = rw (sign_is w s h, magnitude_is w s h)

  -- a NaN keeps its digits
  pub neg_of_nan : (s : Bool) {p : ℕ} → Payload w p → float_neg w (nan_of w s p) ≡ nan_of w (not s) p
  neg_of_nan s h = neg_turns s (nan_below w h)

  magnitude-below : (b : ℕ) → magnitude w b < sign_bit w
  magnitude-below b = mod-lt b (mul-pos (pow_pos w.exponent) (lead_pos w))

  pub neg_fits : (b : ℕ) → float_neg w b < 2 * sign_bit w
  unfolding float_neg
  neg_fits b = sign_fits (sign_bit w) (not (negative w b)) (magnitude w b) (magnitude-below b)

  pub negation_only : {b r : ℕ} → Negation w b r → r ≡ float_neg w b
  negation_only (turned s m h) = sym (neg_turns s h)

  pub negation_is : {b : ℕ} → b < 2 * sign_bit w → Negation w b (float_neg w b)
  unfolding float_neg
  negation_is {b} h = subst (λ (x : ℕ). Negation w x (with_sign w (not (negative w b)) (magnitude w b))) (sym (written w b h)) (turned (negative w b) (magnitude w b) (magnitude-below b))

  -- twice is not at all
  pub neg_twice : {b : ℕ} → b < 2 * sign_bit w → float_neg w (float_neg w b) ≡ b
  unfolding float_neg
  neg_twice {b} h = rw (sign_is w (not (negative w b)) (magnitude-below b), magnitude_is w (not (negative w b)) (magnitude-below b), not-not (negative w b)) (sym (written w b h))

  module _ (proper : Proper w) where
    pub difference_only : {a b r : ℕ} → Difference w a b r → r ≡ float_sub w a b
    unfolding float_sub
    difference_only {a} (less_by n s) = sum_only w proper s ∙ ap (float_add w a) (negation_only n)

    pub difference_is : {a b : ℕ} → a < 2 * sign_bit w → b < 2 * sign_bit w → Difference w a b (float_sub w a b)
    unfolding float_sub
    difference_is {a} {b} h k = less_by (negation_is k) (sum_is w proper h (neg_fits b))
