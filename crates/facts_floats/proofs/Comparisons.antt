-- lt and eq are what the core standard's lines say, both ways; where a NaN stands only ne holds; and where none stands le is
-- what gt is not, and ge what lt is not.
use Prim.Native.Nat.{ℕ, ◌+◌, ◌*◌, ◌≤◌, ◌<◌}
use native.Mathlib.Nat.{le_refl, le_of_lt, eq-zero-or-pos, eq-or-lt_of_le, lt_irrefl}
use native.Mathlib.Omega.{arith}
use mathlib.Core.Path.{◌≡◌, refl, sym, ap, ◌∙◌}
use mathlib.Core.Bool.{Bool, true, false, not, ◌&&◌, ◌||◌, beq}
use mathlib.Core.Logic.{◌⊎◌, inl, inr}
use lib.Dec.{eqb, ltb}
use borrow.Author.Tests.{le-ltb, lt-ltb, eq-eqb, ne_eqb, eqb-true}
use Rattle.scope.specs.Rounding.{Width, sign_bit, infinite, units}
use Rattle.scope.specs.Floats.{negative, with_sign, units_of, is_nan, less_signed, same_signed, float_equal, float_unequal, float_less, float_greater, float_at_most, float_at_least}
use Rattle.scope.proofs.Impossible.{impossible}
use Rattle.facts_floats.specs.Standard.{Proper, zero_of, infinity, nan_of, Payload, Form, is_nan_lem, is_infinity, is_number}
use Rattle.facts_floats.specs.Comparing.{counted, Less, Equal, OnlyUnequal}
use Rattle.facts_floats.proofs.Signs.{or_true, same_sign, signs_both_ways}
use Rattle.facts_floats.proofs.Wholes.{whole_test, whole-tested, tested-whole}
use Rattle.scope.proofs.Units.{lt-or-le, units_lt}
use Rattle.facts_floats.proofs.Forms.{infinite-below, magnitude_is, nan_nan, infinity_sign, infinity-no_nan, number_sign, number-magnitude, number-no_nan, infinite_pos, units-zero, units_pos, form}

signed-tested : (s t : Bool) (m n : ℕ) → whole_test (counted s m) (counted t n) ≡ less_signed s m t n
signed-tested true true m n = refl
signed-tested true false m n = refl
signed-tested false true m n = refl
signed-tested false false m n = refl

-- a magnitude u beside a greater one v
module _ (u v : ℕ) (l : u < v) where
  less_than_greatest : (s : Bool) → less_signed s u false v ≡ true
  less_than_greatest true = lt-ltb 0 (u + v) (omega arith)
  less_than_greatest false = lt-ltb u v l

  least_less : (t : Bool) → less_signed true v t u ≡ true
  least_less true = lt-ltb u v l
  least_less false = lt-ltb 0 (v + u) (omega arith)

  greatest-not_less : (t : Bool) → less_signed false v t u ≡ false
  greatest-not_less true = refl
  greatest-not_less false = le-ltb v u (le_of_lt l)

  not_less_than_least : (s : Bool) → less_signed s u true v ≡ false
  not_less_than_least true = le-ltb v u (le_of_lt l)
  not_less_than_least false = refl

  never_same : (s t : Bool) → same_signed s v t u ≡ false
  never_same s t = rw (ne_eqb v u (λ e. omega arith))

  never_same_back : (s t : Bool) → same_signed s u t v ≡ false
  never_same_back s t = rw (ne_eqb u v (λ e. omega arith))

module _ (w : Width) where
  module _ (a b : ℕ) (h : is_nan w a ≡ false) (k : is_nan w b ≡ false) where
    less_parts : float_less w a b ≡ less_signed (negative w a) (units_of w a) (negative w b) (units_of w b)
    unfolding float_less
    less_parts = rw (h, k)

    equal_parts : float_equal w a b ≡ same_signed (negative w a) (units_of w a) (negative w b) (units_of w b)
    unfolding float_equal
    equal_parts = rw (h, k)

  abbrev greatest : ℕ
  greatest = units w (infinite w)

  module _ (s t : Bool) {m n : ℕ} (h : m < infinite w) (k : n < infinite w) where
    less_numbers : float_less w (with_sign w s m) (with_sign w t n) ≡ less_signed s (units w m) t (units w n)
    less_numbers = less_parts (with_sign w s m) (with_sign w t n) (number-no_nan w s h) (number-no_nan w t k) ∙ rw (number_sign w s h, number_sign w t k, number-magnitude w s h, number-magnitude w t k)

    equal_numbers : float_equal w (with_sign w s m) (with_sign w t n) ≡ same_signed s (units w m) t (units w n)
    equal_numbers = equal_parts (with_sign w s m) (with_sign w t n) (number-no_nan w s h) (number-no_nan w t k) ∙ rw (number_sign w s h, number_sign w t k, number-magnitude w s h, number-magnitude w t k)

  module _ (s t : Bool) {m : ℕ} (h : m < infinite w) where
    less_infinity : float_less w (with_sign w s m) (infinity w t) ≡ less_signed s (units w m) t greatest
    less_infinity = less_parts (with_sign w s m) (infinity w t) (number-no_nan w s h) (infinity-no_nan w t) ∙ rw (number_sign w s h, infinity_sign w t, number-magnitude w s h, magnitude_is w t (infinite-below w))

    infinity_less : float_less w (infinity w s) (with_sign w t m) ≡ less_signed s greatest t (units w m)
    infinity_less = less_parts (infinity w s) (with_sign w t m) (infinity-no_nan w s) (number-no_nan w t h) ∙ rw (infinity_sign w s, number_sign w t h, magnitude_is w s (infinite-below w), number-magnitude w t h)

    equal_infinity : float_equal w (with_sign w s m) (infinity w t) ≡ same_signed s (units w m) t greatest
    equal_infinity = equal_parts (with_sign w s m) (infinity w t) (number-no_nan w s h) (infinity-no_nan w t) ∙ rw (number_sign w s h, infinity_sign w t, number-magnitude w s h, magnitude_is w t (infinite-below w))

    infinity_equal : float_equal w (infinity w s) (with_sign w t m) ≡ same_signed s greatest t (units w m)
    infinity_equal = equal_parts (infinity w s) (with_sign w t m) (infinity-no_nan w s) (number-no_nan w t h) ∙ rw (infinity_sign w s, number_sign w t h, magnitude_is w s (infinite-below w), number-magnitude w t h)

  less_both : (s t : Bool) → float_less w (infinity w s) (infinity w t) ≡ less_signed s greatest t greatest
  less_both s t =
      less_parts (infinity w s) (infinity w t) (infinity-no_nan w s) (infinity-no_nan w t)
      ∙ ap (λ (x : Bool). less_signed x (units_of w (infinity w s)) (negative w (infinity w t)) (units_of w (infinity w t))) (infinity_sign w s)
      ∙ ap (λ (x : Bool). less_signed s (units_of w (infinity w s)) x (units_of w (infinity w t))) (infinity_sign w t)
      ∙ ap (λ (x : ℕ). less_signed s (units w x) t (units_of w (infinity w t))) (magnitude_is w s (infinite-below w))
      ∙ ap (λ (x : ℕ). less_signed s greatest t (units w x)) (magnitude_is w t (infinite-below w))

  equal_both : (s t : Bool) → float_equal w (infinity w s) (infinity w t) ≡ same_signed s greatest t greatest
  equal_both s t =
      equal_parts (infinity w s) (infinity w t) (infinity-no_nan w s) (infinity-no_nan w t)
      ∙ ap (λ (x : Bool). same_signed x (units_of w (infinity w s)) (negative w (infinity w t)) (units_of w (infinity w t))) (infinity_sign w s)
      ∙ ap (λ (x : Bool). same_signed s (units_of w (infinity w s)) x (units_of w (infinity w t))) (infinity_sign w t)
      ∙ ap (λ (x : ℕ). same_signed s (units w x) t (units_of w (infinity w t))) (magnitude_is w s (infinite-below w))
      ∙ ap (λ (x : ℕ). same_signed s greatest t (units w x)) (magnitude_is w t (infinite-below w))

  -- a NaN compares with nothing
  module _ (s : Bool) {p : ℕ} (h : Payload w p) where
    pub nan_not_less : (b : ℕ) → float_less w (nan_of w s p) b ≡ false
    unfolding float_less
    nan_not_less b = rw (nan_nan w s h)

    pub not_less_than_nan : (a : ℕ) → float_less w a (nan_of w s p) ≡ false
    unfolding float_less
    not_less_than_nan a = rw (nan_nan w s h, or_true (is_nan w a))

    pub nan_not_equal : (b : ℕ) → float_equal w (nan_of w s p) b ≡ false
    unfolding float_equal
    nan_not_equal b = rw (nan_nan w s h)

    pub not_equal_to_nan : (a : ℕ) → float_equal w a (nan_of w s p) ≡ false
    unfolding float_equal
    not_equal_to_nan a = rw (nan_nan w s h, or_true (is_nan w a))

    -- "Where a NaN stands only ne holds": not even of itself does another
    pub nan_differs_from_itself : float_unequal w (nan_of w s p) (nan_of w s p) ≡ true
    nan_differs_from_itself = ap not (nan_not_equal (nan_of w s p))

  pub only_unequal_first : (s : Bool) {p : ℕ} → Payload w p → (b : ℕ) → OnlyUnequal w (nan_of w s p) b
  only_unequal_first s h b =
      let e = nan_not_equal s h b in
      let l = nan_not_less s h b in
      let g = not_less_than_nan s h b in
      record { eq = e; ne = ap not e; lt = l; gt = g; le = rw (l, e); ge = rw (g, e) }

  pub only_unequal_second : (s : Bool) {p : ℕ} → Payload w p → (a : ℕ) → OnlyUnequal w a (nan_of w s p)
  only_unequal_second s h a =
      let e = not_equal_to_nan s h a in
      let l = not_less_than_nan s h a in
      let g = nan_not_less s h a in
      record { eq = e; ne = ap not e; lt = l; gt = g; le = rw (l, e); ge = rw (g, e) }

  module _ (proper : Proper w) where
    greatest_pos : 0 < greatest
    greatest_pos = units_pos w (infinite_pos w proper)

    -- "-0 equals +0"
    pub zeros_equal : (s t : Bool) → float_equal w (zero_of w s) (zero_of w t) ≡ true
    zeros_equal s t = equal_numbers s t (infinite_pos w proper) (infinite_pos w proper) ∙ rw (units-zero w, or_true (beq s t))

    -- ---- less
    pub less_true : {a b : ℕ} → Less w a b → float_less w a b ≡ true
    less_true (Less.numbers s t m n h k l) = less_numbers s t h k ∙ sym (signed-tested s t (units w m) (units w n)) ∙ whole-tested l
    less_true (Less.below_infinity s m h) = less_infinity s false h ∙ less_than_greatest (units w m) greatest (units_lt w h) s
    less_true (Less.above_minus_infinity t n h) = infinity_less true t h ∙ least_less (units w n) greatest (units_lt w h) t
    less_true Less.infinities = less_both true false ∙ lt-ltb 0 (greatest + greatest) (double greatest greatest_pos)
      where
        double : (x : ℕ) → 0 < x → 0 < x + x
        double x h = omega arith

    both : (s t : Bool) → less_signed s greatest t greatest ≡ true → Less w (infinity w s) (infinity w t)
    both true true e = impossible (let z = le-ltb greatest greatest (le_refl greatest) in cc)
    both true false e = Less.infinities
    both false true e = impossible cc
    both false false e = impossible (let z = le-ltb greatest greatest (le_refl greatest) in cc)

    from_infinity : (s t : Bool) {n : ℕ} → n < infinite w → float_less w (infinity w s) (with_sign w t n) ≡ true → Less w (infinity w s) (with_sign w t n)
    from_infinity true t {n} h e = Less.above_minus_infinity t n h
    from_infinity false t {n} h e = impossible (let z = infinity_less false t h ∙ greatest-not_less (units w n) greatest (units_lt w h) t in cc)

    to_infinity : (s t : Bool) {m : ℕ} → m < infinite w → float_less w (with_sign w s m) (infinity w t) ≡ true → Less w (with_sign w s m) (infinity w t)
    to_infinity s true {m} h e = impossible (let z = less_infinity s true h ∙ not_less_than_least (units w m) greatest (units_lt w h) s in cc)
    to_infinity s false {m} h e = Less.below_infinity s m h

    less_of : {a b : ℕ} → Form w a → Form w b → float_less w a b ≡ true → Less w a b
    less_of {a} {b} (is_nan_lem s h) g e = impossible (let z = nan_not_less s h b in cc)
    less_of {a} {b} (is_infinity s) (is_nan_lem t h) e = impossible (let z = not_less_than_nan t h a in cc)
    less_of (is_infinity s) (is_infinity t) e = both s t (sym (less_both s t) ∙ e)
    less_of (is_infinity s) (is_number t n h) e = from_infinity s t h e
    less_of {a} {b} (is_number s m h) (is_nan_lem t k) e = impossible (let z = not_less_than_nan t k a in cc)
    less_of (is_number s m h) (is_infinity t) e = to_infinity s t h e
    less_of (is_number s m h) (is_number t n k) e = Less.numbers s t m n h k (tested-whole (counted s (units w m)) (counted t (units w n)) (signed-tested s t (units w m) (units w n) ∙ sym (less_numbers s t h k) ∙ e))

    pub true_less : {a b : ℕ} → a < 2 * sign_bit w → b < 2 * sign_bit w → float_less w a b ≡ true → Less w a b
    true_less {a} {b} h k e = less_of (form w a h) (form w b k) e

    -- ---- equal
    same_true : (s : Bool) (u : ℕ) → same_signed s u s u ≡ true
    same_true s u = rw (eq-eqb u u refl, same_sign s)

    pub equal_true : {a b : ℕ} → Equal w a b → float_equal w a b ≡ true
    equal_true (Equal.zeros s t) = zeros_equal s t
    equal_true (Equal.same_number_lem s m h) = equal_parts (with_sign w s m) (with_sign w s m) (number-no_nan w s h) (number-no_nan w s h) ∙ same_true (negative w (with_sign w s m)) (units_of w (with_sign w s m))
    equal_true (Equal.same_infinity s) = equal_both s s ∙ same_true s greatest

    -- the two ways to be equal
    same_parts : (s t : Bool) (u v : ℕ) → same_signed s u t v ≡ true → (u ≡ v) × ((s ≡ t) ⊎ (u ≡ 0))
    same_parts s t u v e = go (eqb u v) (eqb-true u v) e
      where
        signs : (s t : Bool) → (beq s t || eqb u 0) ≡ true → (s ≡ t) ⊎ (u ≡ 0)
        signs true true e = inl refl
        signs true false e = inr (eqb-true u 0 e)
        signs false true e = inr (eqb-true u 0 e)
        signs false false e = inl refl

        go : (x : Bool) → (x ≡ true → u ≡ v) → (x && (beq s t || eqb u 0)) ≡ true → (u ≡ v) × ((s ≡ t) ⊎ (u ≡ 0))
        go true h e = (h refl, signs s t e)
        go false h e = impossible cc

    units_same : (m n : ℕ) → units w m ≡ units w n → m ≡ n
    units_same m n e = elim (lt-or-le m n) [
      | inl l ↦ absurd (lt_irrefl (units w n) (rw e at (units_lt w l)))
      | inr g ↦ elim (eq-or-lt_of_le g) [ inl z ↦ sym z | inr l ↦ absurd (lt_irrefl (units w n) (rw e at (units_lt w l))) ]
    ]

    equal_of_numbers : (s t : Bool) {m n : ℕ} → m < infinite w → m ≡ n → (s ≡ t) ⊎ (units w m ≡ 0) → Equal w (with_sign w s m) (with_sign w t n)
    equal_of_numbers s t {m} {n} h e (inl z) = rw (← e, ← z) (Equal.same_number_lem s m h)
    equal_of_numbers s t {m} {n} h e (inr z) =
        let none : m ≡ 0 = units_same m 0 (z ∙ sym (units-zero w)) in
        rw (← e, none) (Equal.zeros s t)

    equal_of_infinities : (s t : Bool) → (s ≡ t) ⊎ (greatest ≡ 0) → Equal w (infinity w s) (infinity w t)
    equal_of_infinities s t (inl e) = rw e (Equal.same_infinity t)
    equal_of_infinities s t (inr z) = absurd (lt_irrefl 0 (rw z at greatest_pos))

    equal_of : {a b : ℕ} → Form w a → Form w b → float_equal w a b ≡ true → Equal w a b
    equal_of {a} {b} (is_nan_lem s h) g e = impossible (let z = nan_not_equal s h b in cc)
    equal_of {a} {b} (is_infinity s) (is_nan_lem t h) e = impossible (let z = not_equal_to_nan t h a in cc)
    equal_of (is_infinity s) (is_infinity t) e = equal_of_infinities s t (same_parts s t greatest greatest (sym (equal_both s t) ∙ e)).1
    equal_of (is_infinity s) (is_number t n h) e = impossible (let z = infinity_equal s t h ∙ never_same (units w n) greatest (units_lt w h) s t in cc)
    equal_of {a} {b} (is_number s m h) (is_nan_lem t k) e = impossible (let z = not_equal_to_nan t k a in cc)
    equal_of (is_number s m h) (is_infinity t) e = impossible (let z = equal_infinity s t h ∙ never_same_back (units w m) greatest (units_lt w h) s t in cc)
    equal_of (is_number s m h) (is_number t n k) e =
        let p = same_parts s t (units w m) (units w n) (sym (equal_numbers s t h k) ∙ e) in
        equal_of_numbers s t h (units_same m n p.0) p.1

    pub true_equal : {a b : ℕ} → a < 2 * sign_bit w → b < 2 * sign_bit w → float_equal w a b ≡ true → Equal w a b
    true_equal {a} {b} h k e = equal_of (form w a h) (form w b k) e

-- ---- le and ge, where no NaN stands
one_of_three : (s t : Bool) (m n : ℕ) → (less_signed s m t n || same_signed s m t n) ≡ not (less_signed t n s m)
one_of_three true true m n = go (lt-or-le m n)
  where
    go : (m < n) ⊎ (n ≤ m) → (ltb n m || (eqb m n && true)) ≡ not (ltb m n)
    go (inl l) = rw (lt-ltb m n l, le-ltb n m (le_of_lt l), ne_eqb m n (λ e. omega arith))
    go (inr g) = elim (eq-or-lt_of_le g) [
      | inl e ↦ rw (e, le-ltb m m (le_refl m), eq-eqb m m refl)
      | inr l ↦ rw (lt-ltb n m l, le-ltb m n (le_of_lt l))
    ]
one_of_three true false m n = go (eq-zero-or-pos (m + n))
  where
    go : (m + n ≡ 0) ⊎ (0 < m + n) → (ltb 0 (m + n) || (eqb m n && eqb m 0)) ≡ true
    go (inl z) = let a : m ≡ 0 = omega arith in let b : n ≡ 0 = omega arith in rw (a, b)
    go (inr l) = rw (lt-ltb 0 (m + n) l)
one_of_three false true m n = go (eq-zero-or-pos (m + n))
  where
    go : (m + n ≡ 0) ⊎ (0 < m + n) → (eqb m n && eqb m 0) ≡ not (ltb 0 (n + m))
    go (inl z) = let a : m ≡ 0 = omega arith in let b : n ≡ 0 = omega arith in rw (a, b)
    go (inr l) = rw (lt-ltb 0 (n + m) (omega arith)) (differ (eqb m n) (eqb m 0) (eqb-true m n) (eqb-true m 0))
      where
        differ : (x y : Bool) → (x ≡ true → m ≡ n) → (y ≡ true → m ≡ 0) → (x && y) ≡ false
        differ true true f g = absurd (let a = f refl in let b = g refl in omega arith)
        differ true false f g = refl
        differ false y f g = refl
one_of_three false false m n = go (lt-or-le m n)
  where
    go : (m < n) ⊎ (n ≤ m) → (ltb m n || (eqb m n && true)) ≡ not (ltb n m)
    go (inl l) = rw (lt-ltb m n l, le-ltb n m (le_of_lt l))
    go (inr g) = elim (eq-or-lt_of_le g) [
      | inl e ↦ rw (e, le-ltb m m (le_refl m), eq-eqb m m refl)
      | inr l ↦ rw (lt-ltb n m l, le-ltb m n (le_of_lt l), ne_eqb m n (λ e. omega arith))
    ]

same_both_ways : (s t : Bool) (m n : ℕ) → same_signed s m t n ≡ same_signed t n s m
same_both_ways s t m n = elim (lt-or-le m n) [
  | inl l ↦ rw (ne_eqb m n (λ e. omega arith), ne_eqb n m (λ e. omega arith))
  | inr g ↦ elim (eq-or-lt_of_le g) [
    | inl e ↦ rw (e, signs_both_ways s t)
    | inr l ↦ rw (ne_eqb m n (λ e. omega arith), ne_eqb n m (λ e. omega arith))
  ]
]

module _ (w : Width) (a b : ℕ) (h : is_nan w a ≡ false) (k : is_nan w b ≡ false) where
  pub at_most_not_greater : float_at_most w a b ≡ not (float_greater w a b)
  at_most_not_greater = rw (less_parts w a b h k, equal_parts w a b h k, less_parts w b a k h) (one_of_three (negative w a) (negative w b) (units_of w a) (units_of w b))

  pub at_least_not_less : float_at_least w a b ≡ not (float_less w a b)
  at_least_not_less = rw (less_parts w a b h k, equal_parts w a b h k, less_parts w b a k h, same_both_ways (negative w a) (negative w b) (units_of w a) (units_of w b)) (one_of_three (negative w b) (negative w a) (units_of w b) (units_of w a))
