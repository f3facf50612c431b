-- mul and div are what the core standard's lines say, both ways. Each line is an equation of `float_mul` or `float_div`; every
-- two patterns fall under a line, and no two lines differ.
use Prim.Native.Nat.{ℕ, ◌*◌, ◌<◌}
use native.Mathlib.Nat.{le_of_lt, zero-mul, mul-zero, eq-zero-or-pos}
use mathlib.Core.Path.{◌≡◌, sym, ap, ◌∙◌, subst}
use mathlib.Core.Bool.{Bool, true, false}
use mathlib.Core.Logic.{inl, inr}
use lib.Pow.{pow_pos}
use Rattle.scope.specs.Rounding.{Width, sign_bit, infinite, units, one, rounded}
use Rattle.scope.specs.Floats.{with_sign, is_nan, is_zero, canonical_nan, float_mul, float_div}
use Rattle.facts_floats.specs.Standard.{Proper, zero_of, infinity, nan_of, Payload, Nonzero, Form, is_nan_lem, is_infinity, is_number, sign_of, Product, Quotient}
use Rattle.facts_floats.proofs.Signs.{or_true, unlike_sign}
use Rattle.facts_floats.proofs.Forms.{nan_nan, infinity_sign, infinity-no_nan, infinity-infinite, number_sign, number-magnitude, number-no_nan, number_finite, infinite_pos, infinity-no-zero, zero-zero, nonzero_no-zero, units-zero, units_pos, form}
use Rattle.facts_floats.proofs.Once.{once, once_only, exactly}

module _ (w : Width) where
  -- so many units are 1, and that is not none
  one_pos : 0 < one w
  one_pos = pow_pos _

  -- "a NaN from .. mul or div is written as the positive canonical pattern"
  module _ (s : Bool) {p : ℕ} (h : Payload w p) where
    pub mul-first_nan : (b : ℕ) → float_mul w (nan_of w s p) b ≡ canonical_nan w
    unfolding float_mul
    mul-first_nan b = rw (nan_nan w s h)

    pub mul-second_nan : (a : ℕ) → float_mul w a (nan_of w s p) ≡ canonical_nan w
    unfolding float_mul
    mul-second_nan a = rw (nan_nan w s h, or_true (is_nan w a))

    pub div-first_nan : (b : ℕ) → float_div w (nan_of w s p) b ≡ canonical_nan w
    unfolding float_div
    div-first_nan b = rw (nan_nan w s h)

    pub div-second_nan : (a : ℕ) → float_div w a (nan_of w s p) ≡ canonical_nan w
    unfolding float_div
    div-second_nan a = rw (nan_nan w s h, or_true (is_nan w a))

  -- numbers
  module _ (s t : Bool) {m n : ℕ} (h : m < infinite w) (k : n < infinite w) where
    pub mul-numbers : float_mul w (with_sign w s m) (with_sign w t n) ≡ with_sign w (sign_of s t) (rounded w (units w m * units w n) (one w))
    unfolding float_mul
    mul-numbers = rw (number-no_nan w s h, number-no_nan w t k, number_finite w s h, number_finite w t k, number_sign w s h, number_sign w t k, number-magnitude w s h, number-magnitude w t k, unlike_sign s t)

    pub div-numbers : is_zero w (with_sign w t n) ≡ false → float_div w (with_sign w s m) (with_sign w t n) ≡ with_sign w (sign_of s t) (rounded w (units w m * one w) (units w n))
    unfolding float_div
    div-numbers z = rw (number-no_nan w s h, number-no_nan w t k, number_finite w s h, number_finite w t k, z, number_sign w s h, number_sign w t k, number-magnitude w s h, number-magnitude w t k, unlike_sign s t)

  -- an infinity and a number
  module _ (s t : Bool) {m : ℕ} (h : m < infinite w) where
    pub div-first-infinite : float_div w (infinity w s) (with_sign w t m) ≡ infinity w (sign_of s t)
    unfolding float_div
    div-first-infinite = rw (infinity-no_nan w s, number-no_nan w t h, infinity-infinite w s, number_finite w t h, infinity_sign w s, number_sign w t h, unlike_sign s t)

    pub div_by_infinity : float_div w (with_sign w s m) (infinity w t) ≡ zero_of w (sign_of s t)
    unfolding float_div
    div_by_infinity = rw (number-no_nan w s h, infinity-no_nan w t, number_finite w s h, infinity-infinite w t, number_sign w s h, infinity_sign w t, unlike_sign s t)

  pub div_infinities : (s t : Bool) → float_div w (infinity w s) (infinity w t) ≡ canonical_nan w
  unfolding float_div
  div_infinities true true = rw (infinity-no_nan w true, infinity-infinite w true)
  div_infinities true false = rw (infinity-no_nan w true, infinity-no_nan w false, infinity-infinite w true, infinity-infinite w false)
  div_infinities false true = rw (infinity-no_nan w false, infinity-no_nan w true, infinity-infinite w false, infinity-infinite w true)
  div_infinities false false = rw (infinity-no_nan w false, infinity-infinite w false)

  module _ (proper : Proper w) where
    pub mul_infinities : (s t : Bool) → float_mul w (infinity w s) (infinity w t) ≡ infinity w (sign_of s t)
    unfolding float_mul
    mul_infinities true true = rw (infinity-no_nan w true, infinity-infinite w true, infinity-no-zero w proper true, infinity_sign w true)
    mul_infinities true false = rw (infinity-no_nan w true, infinity-no_nan w false, infinity-infinite w true, infinity-no-zero w proper true, infinity-no-zero w proper false, infinity_sign w true, infinity_sign w false)
    mul_infinities false true = rw (infinity-no_nan w false, infinity-no_nan w true, infinity-infinite w false, infinity-no-zero w proper false, infinity-no-zero w proper true, infinity_sign w false, infinity_sign w true)
    mul_infinities false false = rw (infinity-no_nan w false, infinity-infinite w false, infinity-no-zero w proper false, infinity_sign w false)

    module _ (s t : Bool) {m : ℕ} (h : Nonzero w m) where
      pub mul-first-infinite : float_mul w (infinity w s) (with_sign w t m) ≡ infinity w (sign_of s t)
      unfolding float_mul
      mul-first-infinite = rw (infinity-no_nan w s, number-no_nan w t h.finite, infinity-infinite w s, infinity-no-zero w proper s, nonzero_no-zero w t h, infinity_sign w s, number_sign w t h.finite, unlike_sign s t)

      pub mul-second-infinite : float_mul w (with_sign w s m) (infinity w t) ≡ infinity w (sign_of s t)
      unfolding float_mul
      mul-second-infinite = rw (number-no_nan w s h.finite, infinity-no_nan w t, number_finite w s h.finite, infinity-infinite w t, nonzero_no-zero w s h, infinity-no-zero w proper t, number_sign w s h.finite, infinity_sign w t, unlike_sign s t)

      -- any other number by zero
      pub div_by_zero : float_div w (with_sign w s m) (zero_of w t) ≡ infinity w (sign_of s t)
      unfolding float_div
      div_by_zero = rw (number-no_nan w s h.finite, number-no_nan w t (infinite_pos w proper), number_finite w s h.finite, number_finite w t (infinite_pos w proper), zero-zero w proper t, nonzero_no-zero w s h, number_sign w s h.finite, number_sign w t (infinite_pos w proper), unlike_sign s t)

    -- zeros
    module _ (s t : Bool) where
      pub mul-zero_by_infinity : float_mul w (zero_of w s) (infinity w t) ≡ canonical_nan w
      unfolding float_mul
      mul-zero_by_infinity = rw (number-no_nan w s (infinite_pos w proper), infinity-no_nan w t, number_finite w s (infinite_pos w proper), infinity-infinite w t, zero-zero w proper s)

      pub mul-infinity_by_zero : float_mul w (infinity w s) (zero_of w t) ≡ canonical_nan w
      unfolding float_mul
      mul-infinity_by_zero = rw (infinity-no_nan w s, number-no_nan w t (infinite_pos w proper), infinity-infinite w s, infinity-no-zero w proper s, zero-zero w proper t)

    pub div-zeros : (s t : Bool) → float_div w (zero_of w s) (zero_of w t) ≡ canonical_nan w
    unfolding float_div
    div-zeros true true = rw (number-no_nan w true (infinite_pos w proper), number_finite w true (infinite_pos w proper), zero-zero w proper true)
    div-zeros true false = rw (number-no_nan w true (infinite_pos w proper), number-no_nan w false (infinite_pos w proper), number_finite w true (infinite_pos w proper), number_finite w false (infinite_pos w proper), zero-zero w proper false, zero-zero w proper true)
    div-zeros false true = rw (number-no_nan w false (infinite_pos w proper), number-no_nan w true (infinite_pos w proper), number_finite w false (infinite_pos w proper), number_finite w true (infinite_pos w proper), zero-zero w proper true, zero-zero w proper false)
    div-zeros false false = rw (number-no_nan w false (infinite_pos w proper), number_finite w false (infinite_pos w proper), zero-zero w proper false)

    -- nothing, by whatever, is nothing
    none_of : (d : ℕ) → 0 < d → rounded w 0 d ≡ 0
    none_of d h = ap (λ (x : ℕ). rounded w x d) (sym (ap (λ (x : ℕ). x * d) (units-zero w) ∙ zero-mul d)) ∙ exactly w proper d h (le_of_lt (infinite_pos w proper))

    module _ (s t : Bool) {m : ℕ} (h : m < infinite w) where
      pub mul-first-zero : float_mul w (zero_of w s) (with_sign w t m) ≡ zero_of w (sign_of s t)
      mul-first-zero = mul-numbers s t (infinite_pos w proper) h ∙ rw (units-zero w, zero-mul (units w m), none_of (one w) one_pos)

      pub mul-second-zero : float_mul w (with_sign w s m) (zero_of w t) ≡ zero_of w (sign_of s t)
      mul-second-zero = mul-numbers s t h (infinite_pos w proper) ∙ rw (units-zero w, mul-zero (units w m), none_of (one w) one_pos)

    pub div-first-zero : (s t : Bool) {n : ℕ} → Nonzero w n → float_div w (zero_of w s) (with_sign w t n) ≡ zero_of w (sign_of s t)
    div-first-zero s t {n} h =
        div-numbers s t (infinite_pos w proper) h.finite (nonzero_no-zero w t h) ∙ rw (units-zero w, zero-mul (one w), none_of (units w n) (units_pos w h.some))

    -- whatever a line says is what is computed
    pub product_only : {a b r : ℕ} → Product w a b r → r ≡ float_mul w a b
    product_only {a} {b} (Product.first_nan s h) = sym (mul-first_nan s h b)
    product_only {a} {b} (Product.second_nan s h) = sym (mul-second_nan s h a)
    product_only (Product.zero_by_infinity s t) = sym (mul-zero_by_infinity s t)
    product_only (Product.infinity_by_zero s t) = sym (mul-infinity_by_zero s t)
    product_only (Product.infinities s t) = sym (mul_infinities s t)
    product_only (Product.first_infinite s t h) = sym (mul-first-infinite s t h)
    product_only (Product.second_infinite s t h) = sym (mul-second-infinite s t h)
    product_only (Product.first_zero s t n h) = sym (mul-first-zero s t h)
    product_only (Product.second_zero s t m h) = sym (mul-second-zero s t h)
    product_only (Product.numbers s t h k e) = once_only w proper one_pos e ∙ sym (mul-numbers s t h.finite k.finite)

    pub quotient_only : {a b r : ℕ} → Quotient w a b r → r ≡ float_div w a b
    quotient_only {a} {b} (Quotient.first_nan s h) = sym (div-first_nan s h b)
    quotient_only {a} {b} (Quotient.second_nan s h) = sym (div-second_nan s h a)
    quotient_only (Quotient.infinities s t) = sym (div_infinities s t)
    quotient_only (Quotient.zeros s t) = sym (div-zeros s t)
    quotient_only (Quotient.first_infinite s t n h) = sym (div-first-infinite s t h)
    quotient_only (Quotient.by_infinity s t m h) = sym (div_by_infinity s t h)
    quotient_only (Quotient.first_zero s t h) = sym (div-first-zero s t h)
    quotient_only (Quotient.by_zero s t h) = sym (div_by_zero s t h)
    quotient_only (Quotient.numbers s t h k e) =
        once_only w proper (units_pos w k.some) e ∙ sym (div-numbers s t h.finite k.finite (nonzero_no-zero w t k))

    -- and every two patterns fall under a line
    product_line : {a b r : ℕ} → float_mul w a b ≡ r → Product w a b r → Product w a b (float_mul w a b)
    product_line {a} {b} e l = subst (Product w a b) (sym e) l

    quotient_line : {a b r : ℕ} → float_div w a b ≡ r → Quotient w a b r → Quotient w a b (float_div w a b)
    quotient_line {a} {b} e l = subst (Quotient w a b) (sym e) l

    -- a number is zero, or it is not
    data Sized : ℕ → Type 0 where
      none : Sized 0
      some : {m : ℕ} → Nonzero w m → Sized m

    sized : {m : ℕ} → m < infinite w → Sized m
    sized {m} h = elim (eq-zero-or-pos m) [ inl e ↦ rw e none | inr l ↦ some (record { some = l; finite = h }) ]

    product_numbers : (s t : Bool) {m n : ℕ} → m < infinite w → n < infinite w → Sized m → Sized n → Product w (with_sign w s m) (with_sign w t n) (float_mul w (with_sign w s m) (with_sign w t n))
    product_numbers s t {m} {n} h k none y = product_line (mul-first-zero s t k) (Product.first_zero s t n k)
    product_numbers s t {m} {n} h k (some x) none = product_line (mul-second-zero s t h) (Product.second_zero s t m h)
    product_numbers s t {m} {n} h k (some x) (some y) = product_line (mul-numbers s t h k) (Product.numbers s t x y (once w proper (sign_of s t) (units w m * units w n) (one w) one_pos))

    infinity_by : (s t : Bool) {n : ℕ} → Sized n → Product w (infinity w s) (with_sign w t n) (float_mul w (infinity w s) (with_sign w t n))
    infinity_by s t none = product_line (mul-infinity_by_zero s t) (Product.infinity_by_zero s t)
    infinity_by s t (some y) = product_line (mul-first-infinite s t y) (Product.first_infinite s t y)

    by_infinity : (s t : Bool) {m : ℕ} → Sized m → Product w (with_sign w s m) (infinity w t) (float_mul w (with_sign w s m) (infinity w t))
    by_infinity s t none = product_line (mul-zero_by_infinity s t) (Product.zero_by_infinity s t)
    by_infinity s t (some x) = product_line (mul-second-infinite s t x) (Product.second_infinite s t x)

    product_of : {a b : ℕ} → Form w a → Form w b → Product w a b (float_mul w a b)
    product_of {a} {b} (is_nan_lem s h) g = product_line (mul-first_nan s h b) (Product.first_nan s h)
    product_of {a} {b} (is_infinity s) (is_nan_lem t h) = product_line (mul-second_nan t h a) (Product.second_nan t h)
    product_of (is_infinity s) (is_infinity t) = product_line (mul_infinities s t) (Product.infinities s t)
    product_of (is_infinity s) (is_number t n h) = infinity_by s t (sized h)
    product_of {a} {b} (is_number s m h) (is_nan_lem t k) = product_line (mul-second_nan t k a) (Product.second_nan t k)
    product_of (is_number s m h) (is_infinity t) = by_infinity s t (sized h)
    product_of (is_number s m h) (is_number t n k) = product_numbers s t h k (sized h) (sized k)

    pub product_is : {a b : ℕ} → a < 2 * sign_bit w → b < 2 * sign_bit w → Product w a b (float_mul w a b)
    product_is {a} {b} h k = product_of (form w a h) (form w b k)

    quotient_numbers : (s t : Bool) {m n : ℕ} → m < infinite w → n < infinite w → Sized m → Sized n → Quotient w (with_sign w s m) (with_sign w t n) (float_div w (with_sign w s m) (with_sign w t n))
    quotient_numbers s t h k none none = quotient_line (div-zeros s t) (Quotient.zeros s t)
    quotient_numbers s t h k none (some y) = quotient_line (div-first-zero s t y) (Quotient.first_zero s t y)
    quotient_numbers s t h k (some x) none = quotient_line (div_by_zero s t x) (Quotient.by_zero s t x)
    quotient_numbers s t {m} {n} h k (some x) (some y) =
        quotient_line (div-numbers s t h k (nonzero_no-zero w t y)) (Quotient.numbers s t x y (once w proper (sign_of s t) (units w m * one w) (units w n) (units_pos w y.some)))

    quotient_of : {a b : ℕ} → Form w a → Form w b → Quotient w a b (float_div w a b)
    quotient_of {a} {b} (is_nan_lem s h) g = quotient_line (div-first_nan s h b) (Quotient.first_nan s h)
    quotient_of {a} {b} (is_infinity s) (is_nan_lem t h) = quotient_line (div-second_nan t h a) (Quotient.second_nan t h)
    quotient_of (is_infinity s) (is_infinity t) = quotient_line (div_infinities s t) (Quotient.infinities s t)
    quotient_of (is_infinity s) (is_number t n h) = quotient_line (div-first-infinite s t h) (Quotient.first_infinite s t n h)
    quotient_of {a} {b} (is_number s m h) (is_nan_lem t k) = quotient_line (div-second_nan t k a) (Quotient.second_nan t k)
    quotient_of (is_number s m h) (is_infinity t) = quotient_line (div_by_infinity s t h) (Quotient.by_infinity s t m h)
    quotient_of (is_number s m h) (is_number t n k) = quotient_numbers s t h k (sized h) (sized k)

    pub quotient_is : {a b : ℕ} → a < 2 * sign_bit w → b < 2 * sign_bit w → Quotient w a b (float_div w a b)
    quotient_is {a} {b} h k = quotient_of (form w a h) (form w b k)
