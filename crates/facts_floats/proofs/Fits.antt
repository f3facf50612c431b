-- Every result is a pattern of its width: a line's result is an operand's sign and a magnitude that is at most infinite, or the
-- canonical NaN.
use Prim.Native.Nat.{ℕ, ◌+◌, ◌*◌, ◌/◌, ◌≤◌, ◌<◌}
use native.Mathlib.Nat.{le_refl, le_of_lt, lt_of_le_of_lt}
use native.Mathlib.Omega.{arith}
use mathlib.Core.Path.{sym, subst}
use mathlib.Core.Bool.{Bool, false}
use Rattle.scope.specs.Rounding.{Width, lead, sign_bit, infinite}
use Rattle.scope.specs.Floats.{with_sign, canonical_nan, float_add, float_sub, float_mul, float_div, RoundedOnce}
use Rattle.facts_floats.specs.Standard.{Proper, sign_of, Sum, Product, Quotient}
use Rattle.facts_floats.proofs.Forms.{top, lead_pos, infinite-below, infinite_pos}
use Rattle.facts_floats.proofs.Sums.{sum_is}
use Rattle.facts_floats.proofs.Negations.{sign_fits, neg_fits}
use Rattle.facts_floats.proofs.Products.{product_is, quotient_is}

module _ (w : Width) where
  abbrev pub Fits : ℕ → Type 0
  Fits r = r < 2 * sign_bit w

  magnitude-fits : (s : Bool) {m : ℕ} → m ≤ infinite w → Fits (with_sign w s m)
  magnitude-fits s {m} h = sign_fits (sign_bit w) s m (lt_of_le_of_lt h (infinite-below w))

  nan_fits : Fits (canonical_nan w)
  nan_fits = rw (top w) (half (infinite w) (lead w) (lead_pos w))
    where
      half : (a l : ℕ) → 0 < l → a + l / 2 < 2 * (a + l)
      half a l h = omega arith

  once_fits : {s : Bool} {n d r : ℕ} → RoundedOnce w s n d r → Fits r
  once_fits {s} p = subst Fits (sym p.is) (magnitude-fits s p.near.within)

  module _ (proper : Proper w) where
    zero-fits : (s : Bool) → Fits (with_sign w s 0)
    zero-fits s = magnitude-fits s (le_of_lt (infinite_pos w proper))

    infinity-fits : (s : Bool) → Fits (with_sign w s (infinite w))
    infinity-fits s = magnitude-fits s (le_refl (infinite w))

    sum_fits : {a b r : ℕ} → Sum w a b r → Fits r
    sum_fits (Sum.first_nan s h) = nan_fits
    sum_fits (Sum.second_nan s h) = nan_fits
    sum_fits (Sum.opposite_infinities s) = nan_fits
    sum_fits (Sum.equal_infinities s) = infinity-fits s
    sum_fits (Sum.first_infinite s t n h) = infinity-fits s
    sum_fits (Sum.second_infinite s t m h) = infinity-fits t
    sum_fits (Sum.opposite_zeros s) = zero-fits false
    sum_fits (Sum.equal_zeros s) = zero-fits s
    sum_fits (Sum.first_zero s t h) = magnitude-fits t (le_of_lt h.finite)
    sum_fits (Sum.second_zero s t h) = magnitude-fits s (le_of_lt h.finite)
    sum_fits (Sum.cancels s h) = zero-fits false
    sum_fits (Sum.alike s h k e) = once_fits e
    sum_fits (Sum.first_greater s h k l e g) = once_fits g
    sum_fits (Sum.second_greater s h k l e g) = once_fits g

    product_fits : {a b r : ℕ} → Product w a b r → Fits r
    product_fits (Product.first_nan s h) = nan_fits
    product_fits (Product.second_nan s h) = nan_fits
    product_fits (Product.zero_by_infinity s t) = nan_fits
    product_fits (Product.infinity_by_zero s t) = nan_fits
    product_fits (Product.infinities s t) = infinity-fits (sign_of s t)
    product_fits (Product.first_infinite s t h) = infinity-fits (sign_of s t)
    product_fits (Product.second_infinite s t h) = infinity-fits (sign_of s t)
    product_fits (Product.first_zero s t n h) = zero-fits (sign_of s t)
    product_fits (Product.second_zero s t m h) = zero-fits (sign_of s t)
    product_fits (Product.numbers s t h k e) = once_fits e

    quotient_fits : {a b r : ℕ} → Quotient w a b r → Fits r
    quotient_fits (Quotient.first_nan s h) = nan_fits
    quotient_fits (Quotient.second_nan s h) = nan_fits
    quotient_fits (Quotient.infinities s t) = nan_fits
    quotient_fits (Quotient.zeros s t) = nan_fits
    quotient_fits (Quotient.first_infinite s t n h) = infinity-fits (sign_of s t)
    quotient_fits (Quotient.by_infinity s t m h) = zero-fits (sign_of s t)
    quotient_fits (Quotient.first_zero s t h) = zero-fits (sign_of s t)
    quotient_fits (Quotient.by_zero s t h) = infinity-fits (sign_of s t)
    quotient_fits (Quotient.numbers s t h k e) = once_fits e

    module _ {a b : ℕ} (h : Fits a) (k : Fits b) where
      pub add-fits : Fits (float_add w a b)
      add-fits = sum_fits (sum_is w proper h k)

      pub sub-fits : Fits (float_sub w a b)
      unfolding float_sub
      sub-fits = sum_fits (sum_is w proper h (neg_fits w b))

      pub mul-fits : Fits (float_mul w a b)
      mul-fits = product_fits (product_is w proper h k)

      pub div-fits : Fits (float_div w a b)
      div-fits = quotient_fits (quotient_is w proper h k)
