-- add and sub are what the core standard's lines say, both ways. Each line is an equation of `float_add`; every two patterns
-- fall under a line, and no two lines differ.
use Prim.Native.Nat.{ℕ, ◌+◌, ◌-◌, ◌*◌, ◌<◌}
use native.Mathlib.Nat.{le_refl, le_of_lt, zero-lt-suc, zero-add, add-zero, sub_self, eq-zero-or-pos, eq-or-lt_of_le}
use native.Mathlib.Omega.{arith}
use mathlib.Core.Path.{◌≡◌, sym, ap, ◌∙◌, subst}
use mathlib.Core.Bool.{Bool, true, false, not}
use mathlib.Core.Logic.{inl, inr}
use borrow.Author.Tests.{le-ltb, lt-ltb}
use Rattle.scope.specs.Rounding.{Width, sign_bit, infinite, units, rounded}
use Rattle.scope.specs.Floats.{with_sign, is_nan, canonical_nan, sum_of, float_add}
use Rattle.facts_floats.specs.Standard.{Proper, zero_of, infinity, nan_of, Payload, Nonzero, Form, is_nan_lem, is_infinity, is_number, Sum}
use Rattle.facts_floats.proofs.Signs.{or_true, and_true, and_false, same_sign, other_sign}
use Rattle.scope.proofs.Units.{lt-or-le, units_lt}
use Rattle.facts_floats.proofs.Forms.{nan_nan, infinity_sign, infinity-no_nan, infinity-infinite, number_sign, number-magnitude, number-no_nan, number_finite, infinite_pos, units-zero, units_pos, form}
use Rattle.facts_floats.proofs.Once.{once, once_only, exactly_whole}

module _ (w : Width) where
  -- "a NaN from add .. is written as the positive canonical pattern"
  module _ (s : Bool) {p : ℕ} (h : Payload w p) where
    pub add-first_nan : (b : ℕ) → float_add w (nan_of w s p) b ≡ canonical_nan w
    unfolding float_add
    add-first_nan b = rw (nan_nan w s h)

    pub add-second_nan : (a : ℕ) → float_add w a (nan_of w s p) ≡ canonical_nan w
    unfolding float_add
    add-second_nan a = rw (nan_nan w s h, or_true (is_nan w a))

  -- infinities
  pub add_opposite_infinities : (s : Bool) → float_add w (infinity w s) (infinity w (not s)) ≡ canonical_nan w
  unfolding float_add
  add_opposite_infinities true = rw (infinity-no_nan w true, infinity-no_nan w false, infinity-infinite w true, infinity-infinite w false, infinity_sign w true, infinity_sign w false)
  add_opposite_infinities false = rw (infinity-no_nan w false, infinity-no_nan w true, infinity-infinite w false, infinity-infinite w true, infinity_sign w false, infinity_sign w true)

  pub add_equal_infinities : (s : Bool) → float_add w (infinity w s) (infinity w s) ≡ infinity w s
  unfolding float_add
  add_equal_infinities s = rw (infinity-no_nan w s, infinity-infinite w s, infinity_sign w s, same_sign s)

  module _ (s t : Bool) {m : ℕ} (h : m < infinite w) where
    pub add-first-infinite : float_add w (infinity w s) (with_sign w t m) ≡ infinity w s
    unfolding float_add
    add-first-infinite = rw (infinity-no_nan w s, number-no_nan w t h, infinity-infinite w s, number_finite w t h, infinity_sign w s)

    pub add-second-infinite : float_add w (with_sign w s m) (infinity w t) ≡ infinity w t
    unfolding float_add
    add-second-infinite = rw (number-no_nan w s h, infinity-no_nan w t, number_finite w s h, infinity-infinite w t, infinity_sign w t)

  -- numbers
  module _ (s t : Bool) {m n : ℕ} (h : m < infinite w) (k : n < infinite w) where
    add-numbers : float_add w (with_sign w s m) (with_sign w t n) ≡ sum_of w s (units w m) t (units w n)
    unfolding float_add
    add-numbers = rw (number-no_nan w s h, number-no_nan w t k, number_finite w s h, number_finite w t k, number_sign w s h, number_sign w t k, number-magnitude w s h, number-magnitude w t k)

  module _ (s : Bool) {m n : ℕ} (h : m < infinite w) (k : n < infinite w) where
    pub add_alike : float_add w (with_sign w s m) (with_sign w s n) ≡ with_sign w s (rounded w (units w m + units w n) 1)
    add_alike = add-numbers s s h k ∙ rw (same_sign s)

    pub add-first_greater : {o : ℕ} → 0 < o → units w m ≡ units w n + o → float_add w (with_sign w s m) (with_sign w (not s) n) ≡ with_sign w s (rounded w o 1)
    add-first_greater {o} l e =
        add-numbers s (not s) h k
        ∙ rw (other_sign s, le-ltb (units w m) (units w n) (le_of_lt (more (units w m) (units w n) o l e)), lt-ltb (units w n) (units w m) (more (units w m) (units w n) o l e), and_true s, less (units w m) (units w n) o e)
      where
        more : (x y o : ℕ) → 0 < o → x ≡ y + o → y < x
        more x y o l e = omega arith

        less : (x y o : ℕ) → x ≡ y + o → x - y ≡ o
        less x y o e = omega arith

    pub add-second_greater : {o : ℕ} → 0 < o → units w n ≡ units w m + o → float_add w (with_sign w s m) (with_sign w (not s) n) ≡ with_sign w (not s) (rounded w o 1)
    add-second_greater {o} l e =
        add-numbers s (not s) h k ∙ rw (other_sign s, lt-ltb (units w m) (units w n) (more (units w n) (units w m) o l e), less (units w n) (units w m) o e)
      where
        more : (x y o : ℕ) → 0 < o → x ≡ y + o → y < x
        more x y o l e = omega arith

        less : (x y o : ℕ) → x ≡ y + o → x - y ≡ o
        less x y o e = omega arith

  module _ (proper : Proper w) where
    -- a sum that is exactly zero
    rounded-zero : rounded w 0 1 ≡ 0
    rounded-zero = ap (λ (x : ℕ). rounded w x 1) (sym (units-zero w)) ∙ exactly_whole w proper (le_of_lt (infinite_pos w proper))

    pub add_cancels : (s : Bool) {m : ℕ} → m < infinite w → float_add w (with_sign w s m) (with_sign w (not s) m) ≡ zero_of w false
    add_cancels s {m} h =
        add-numbers s (not s) h h ∙ rw (other_sign s, le-ltb (units w m) (units w m) (le_refl (units w m)), and_false s, sub_self (units w m), rounded-zero)

    pub add_opposite_zeros : (s : Bool) → float_add w (zero_of w s) (zero_of w (not s)) ≡ zero_of w false
    add_opposite_zeros s = add_cancels s (infinite_pos w proper)

    -- zero and a number
    pub add_equal_zeros : (s : Bool) → float_add w (zero_of w s) (zero_of w s) ≡ zero_of w s
    add_equal_zeros s = add_alike s (infinite_pos w proper) (infinite_pos w proper) ∙ rw (units-zero w, rounded-zero)

    module _ {m : ℕ} (h : Nonzero w m) where
      as_it_is : rounded w (units w m) 1 ≡ m
      as_it_is = exactly_whole w proper (le_of_lt h.finite)

      zero_before : (s : Bool) → float_add w (zero_of w s) (with_sign w s m) ≡ with_sign w s m
      zero_before s = add_alike s (infinite_pos w proper) h.finite ∙ rw (units-zero w, zero-add (units w m), as_it_is)

      zero_before_other : (s : Bool) → float_add w (zero_of w s) (with_sign w (not s) m) ≡ with_sign w (not s) m
      zero_before_other s =
          add-second_greater s (infinite_pos w proper) h.finite (units_pos w h.some) (rw (units-zero w, zero-add (units w m))) ∙ rw as_it_is

      zero-after : (s : Bool) → float_add w (with_sign w s m) (zero_of w s) ≡ with_sign w s m
      zero-after s = add_alike s h.finite (infinite_pos w proper) ∙ rw (units-zero w, add-zero (units w m), as_it_is)

      zero-after_other : (s : Bool) → float_add w (with_sign w s m) (zero_of w (not s)) ≡ with_sign w s m
      zero-after_other s =
          add-first_greater s h.finite (infinite_pos w proper) (units_pos w h.some) (rw (units-zero w, zero-add (units w m))) ∙ rw as_it_is

      pub add-first-zero : (s t : Bool) → float_add w (zero_of w s) (with_sign w t m) ≡ with_sign w t m
      add-first-zero true true = zero_before true
      add-first-zero true false = zero_before_other true
      add-first-zero false true = zero_before_other false
      add-first-zero false false = zero_before false

      pub add-second-zero : (s t : Bool) → float_add w (with_sign w s m) (zero_of w t) ≡ with_sign w s m
      add-second-zero true true = zero-after true
      add-second-zero true false = zero-after_other true
      add-second-zero false true = zero-after_other false
      add-second-zero false false = zero-after false

    -- whatever a line says is what is computed
    pub sum_only : {a b r : ℕ} → Sum w a b r → r ≡ float_add w a b
    sum_only {a} {b} (Sum.first_nan s h) = sym (add-first_nan s h b)
    sum_only {a} {b} (Sum.second_nan s h) = sym (add-second_nan s h a)
    sum_only (Sum.opposite_infinities s) = sym (add_opposite_infinities s)
    sum_only (Sum.equal_infinities s) = sym (add_equal_infinities s)
    sum_only (Sum.first_infinite s t n h) = sym (add-first-infinite s t h)
    sum_only (Sum.second_infinite s t m h) = sym (add-second-infinite s t h)
    sum_only (Sum.opposite_zeros s) = sym (add_opposite_zeros s)
    sum_only (Sum.equal_zeros s) = sym (add_equal_zeros s)
    sum_only (Sum.first_zero s t h) = sym (add-first-zero h s t)
    sum_only (Sum.second_zero s t h) = sym (add-second-zero h s t)
    sum_only (Sum.cancels s h) = sym (add_cancels s h.finite)
    sum_only (Sum.alike s h k e) = once_only w proper (zero-lt-suc 0) e ∙ sym (add_alike s h.finite k.finite)
    sum_only (Sum.first_greater s h k l e g) = once_only w proper (zero-lt-suc 0) g ∙ sym (add-first_greater s h.finite k.finite l e)
    sum_only (Sum.second_greater s h k l e g) = once_only w proper (zero-lt-suc 0) g ∙ sym (add-second_greater s h.finite k.finite l e)

    -- and every two patterns fall under a line
    line : {a b r : ℕ} → float_add w a b ≡ r → Sum w a b r → Sum w a b (float_add w a b)
    line {a} {b} e l = subst (Sum w a b) (sym e) l

    module _ {m n : ℕ} (h : Nonzero w m) (k : Nonzero w n) where
      sum_alike : (s : Bool) → Sum w (with_sign w s m) (with_sign w s n) (float_add w (with_sign w s m) (with_sign w s n))
      sum_alike s = line (add_alike s h.finite k.finite) (Sum.alike s h k (once w proper s (units w m + units w n) 1 (zero-lt-suc 0)))

      more : (x y : ℕ) → y < x → (0 < x - y) × (x ≡ y + (x - y))
      more x y l = (omega arith, omega arith)

      sum_opposite : (s : Bool) → Sum w (with_sign w s m) (with_sign w (not s) n) (float_add w (with_sign w s m) (with_sign w (not s) n))
      sum_opposite s = elim (lt-or-le m n) [
        | inl l ↦
            let d = more (units w n) (units w m) (units_lt w l) in
            line (add-second_greater s h.finite k.finite d.0 d.1) (Sum.second_greater s h k d.0 d.1 (once w proper (not s) (units w n - units w m) 1 (zero-lt-suc 0)))
        | inr g ↦ elim (eq-or-lt_of_le g) [
          | inl e ↦ rw e (line (add_cancels s h.finite) (Sum.cancels s h))
          | inr l ↦
              let d = more (units w m) (units w n) (units_lt w l) in
              line (add-first_greater s h.finite k.finite d.0 d.1) (Sum.first_greater s h k d.0 d.1 (once w proper s (units w m - units w n) 1 (zero-lt-suc 0)))
        ]
      ]

      sum_nonzero : (s t : Bool) → Sum w (with_sign w s m) (with_sign w t n) (float_add w (with_sign w s m) (with_sign w t n))
      sum_nonzero true true = sum_alike true
      sum_nonzero true false = sum_opposite true
      sum_nonzero false true = sum_opposite false
      sum_nonzero false false = sum_alike false

    sum_zeros : (s t : Bool) → Sum w (zero_of w s) (zero_of w t) (float_add w (zero_of w s) (zero_of w t))
    sum_zeros true true = line (add_equal_zeros true) (Sum.equal_zeros true)
    sum_zeros true false = line (add_opposite_zeros true) (Sum.opposite_zeros true)
    sum_zeros false true = line (add_opposite_zeros false) (Sum.opposite_zeros false)
    sum_zeros false false = line (add_equal_zeros false) (Sum.equal_zeros false)

    sum-numbers : (s t : Bool) {m n : ℕ} → m < infinite w → n < infinite w → Sum w (with_sign w s m) (with_sign w t n) (float_add w (with_sign w s m) (with_sign w t n))
    sum-numbers s t {m} {n} h k = elim (eq-zero-or-pos m) [
      | inl e ↦ elim (eq-zero-or-pos n) [
        | inl z ↦ rw (e, z) (sum_zeros s t)
        | inr l ↦ let some : Nonzero w n = record { some = l; finite = k } in rw e (line (add-first-zero some s t) (Sum.first_zero s t some))
      ]
      | inr l ↦
          let first : Nonzero w m = record { some = l; finite = h } in
          elim (eq-zero-or-pos n) [
            | inl z ↦ rw z (line (add-second-zero first s t) (Sum.second_zero s t first))
            | inr g ↦ sum_nonzero first (record { some = g; finite = k }) s t
          ]
    ]

    sum_infinities : (s t : Bool) → Sum w (infinity w s) (infinity w t) (float_add w (infinity w s) (infinity w t))
    sum_infinities true true = line (add_equal_infinities true) (Sum.equal_infinities true)
    sum_infinities true false = line (add_opposite_infinities true) (Sum.opposite_infinities true)
    sum_infinities false true = line (add_opposite_infinities false) (Sum.opposite_infinities false)
    sum_infinities false false = line (add_equal_infinities false) (Sum.equal_infinities false)

    sum_of_lem : {a b : ℕ} → Form w a → Form w b → Sum w a b (float_add w a b)
    sum_of_lem {a} {b} (is_nan_lem s h) g = line (add-first_nan s h b) (Sum.first_nan s h)
    sum_of_lem {a} {b} (is_infinity s) (is_nan_lem t h) = line (add-second_nan t h a) (Sum.second_nan t h)
    sum_of_lem (is_infinity s) (is_infinity t) = sum_infinities s t
    sum_of_lem (is_infinity s) (is_number t n h) = line (add-first-infinite s t h) (Sum.first_infinite s t n h)
    sum_of_lem {a} {b} (is_number s m h) (is_nan_lem t k) = line (add-second_nan t k a) (Sum.second_nan t k)
    sum_of_lem (is_number s m h) (is_infinity t) = line (add-second-infinite s t h) (Sum.second_infinite s t m h)
    sum_of_lem (is_number s m h) (is_number t n k) = sum-numbers s t h k

    pub sum_is : {a b : ℕ} → a < 2 * sign_bit w → b < 2 * sign_bit w → Sum w a b (float_add w a b)
    sum_is {a} {b} h k = sum_of_lem (form w a h) (form w b k)
