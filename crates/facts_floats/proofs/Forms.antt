-- The parts of a pattern that is written out by sign and magnitude, and what each test of scope says of it; every pattern
-- is written out so.
use Prim.Native.Nat.{ℕ, zero, suc, ◌+◌, ◌-◌, ◌*◌, ◌%◌, ◌^◌, ◌≤◌, ◌<◌}
use native.Mathlib.Nat.{le_refl, le_of_lt, lt_of_lt_of_le, lt_irrefl, zero-add, suc-mul, mul-pos, mod-lt, mod-eq_of_lt, add-mod_left, eq-or-lt_of_le, pow-succ'}
use native.Mathlib.Omega.{arith}
use mathlib.Core.Path.{◌≡◌, refl, sym, ap, ◌∙◌, subst}
use mathlib.Core.Bool.{Bool, true, false, cond}
use mathlib.Core.Logic.{inl, inr}
use lib.Dec.{eqb, leb}
use lib.Pow.{pow_pos}
use borrow.Author.Tests.{le-leb, lt-leb, le-ltb, lt-ltb, eq-eqb, ne_eqb, leb-true, leb-false}
use Rattle.scope.specs.Rounding.{Width, lead, sign_bit, infinite, units}
use Rattle.scope.specs.Floats.{negative, magnitude, with_sign, is_nan, is_infinite, is_zero}
use Rattle.facts_floats.specs.Standard.{Proper, zero_of, infinity, nan_of, Payload, Nonzero, Form, is_nan_lem, is_infinity, is_number}
use Rattle.scope.proofs.Units.{lt-or-le, units-low, units_lt}

parts : (c : ℕ) (s : Bool) (m : ℕ) → m < c → (leb c (cond s c 0 + m) ≡ s) × ((cond s c 0 + m) % c ≡ m)
parts c true m h = (le-leb c (c + m) (omega arith), add-mod_left c m ∙ mod-eq_of_lt h)
parts c false m h = (lt-leb c (0 + m) (omega arith), rw (zero-add m) (mod-eq_of_lt h))

module _ (w : Width) where
  -- the sign weighs one step of the exponent's field more than an infinity
  pub top : sign_bit w ≡ infinite w + lead w
  top = go (2 ^ w.exponent) (pow_pos w.exponent)
    where
      less_one : (x : ℕ) → suc x - 1 ≡ x
      less_one x = omega arith

      go : (x : ℕ) → 0 < x → x * lead w ≡ (x - 1) * lead w + lead w
      go zero h = absurd (omega arith)
      go (suc x) h = rw (less_one x) (suc-mul x (lead w))

  pub lead_pos : 0 < lead w
  lead_pos = pow_pos w.digits

  pub infinite-below : infinite w < sign_bit w
  infinite-below = rw top (more (infinite w) (lead w) lead_pos)
    where
      more : (a b : ℕ) → 0 < b → a < a + b
      more a b h = omega arith

  pub number-below : {m : ℕ} → m < infinite w → m < sign_bit w
  number-below h = lt_of_lt_of_le h (le_of_lt infinite-below)

  pub nan_below : {p : ℕ} → Payload w p → infinite w + p < sign_bit w
  nan_below {p} h = rw top (more (infinite w) p (lead w) h.fits)
    where
      more : (a b c : ℕ) → b < c → a + b < a + c
      more a b c h = omega arith

  module _ (s : Bool) {m : ℕ} (h : m < sign_bit w) where
    pub sign_is : negative w (with_sign w s m) ≡ s
    sign_is = (parts (sign_bit w) s m h).0

    pub magnitude_is : magnitude w (with_sign w s m) ≡ m
    magnitude_is = (parts (sign_bit w) s m h).1

  -- a NaN
  pub nan_nan : (s : Bool) {p : ℕ} → Payload w p → is_nan w (nan_of w s p) ≡ true
  nan_nan s {p} h = rw (magnitude_is s (nan_below h)) (lt-ltb (infinite w) (infinite w + p) (more (infinite w) p h.some))
    where
      more : (a b : ℕ) → 0 < b → a < a + b
      more a b h = omega arith

  -- an infinity
  module _ (s : Bool) where
    pub infinity_sign : negative w (infinity w s) ≡ s
    infinity_sign = sign_is s infinite-below

    pub infinity-no_nan : is_nan w (infinity w s) ≡ false
    infinity-no_nan = rw (magnitude_is s infinite-below) (le-ltb (infinite w) (infinite w) (le_refl (infinite w)))

    pub infinity-infinite : is_infinite w (infinity w s) ≡ true
    infinity-infinite = rw (magnitude_is s infinite-below) (eq-eqb (infinite w) (infinite w) refl)

  -- a number
  module _ (s : Bool) {m : ℕ} (h : m < infinite w) where
    pub number_sign : negative w (with_sign w s m) ≡ s
    number_sign = sign_is s (number-below h)

    pub number-magnitude : magnitude w (with_sign w s m) ≡ m
    number-magnitude = magnitude_is s (number-below h)

    pub number-no_nan : is_nan w (with_sign w s m) ≡ false
    number-no_nan = rw number-magnitude (le-ltb (infinite w) m (le_of_lt h))

    pub number_finite : is_infinite w (with_sign w s m) ≡ false
    number_finite = rw number-magnitude (ne_eqb m (infinite w) (λ e. lt_irrefl (infinite w) (rw e at h)))

    pub number_zero : is_zero w (with_sign w s m) ≡ eqb m 0
    number_zero = ap (λ (x : ℕ). eqb x 0) number-magnitude

  pub nonzero_no-zero : (s : Bool) {m : ℕ} → Nonzero w m → is_zero w (with_sign w s m) ≡ false
  nonzero_no-zero s {m} h = number_zero s h.finite ∙ ne_eqb m 0 (λ e. omega (arith, h.some))

  -- of a proper width
  module _ (proper : Proper w) where
    pub infinite_pos : 0 < infinite w
    infinite_pos = mul-pos (fields w.exponent proper.some_exponent) lead_pos
      where
        fields : (e : ℕ) → 0 < e → 0 < 2 ^ e - 1
        fields zero h = absurd (omega arith)
        fields (suc e) h = rw (pow-succ' 2 e) (two (2 ^ e) (pow_pos e))
          where
            two : (x : ℕ) → 0 < x → 0 < 2 * x - 1
            two x h = omega arith

    pub infinity-no-zero : (s : Bool) → is_zero w (infinity w s) ≡ false
    infinity-no-zero s = rw (magnitude_is s infinite-below) (ne_eqb (infinite w) 0 (λ e. lt_irrefl 0 (rw e at infinite_pos)))

    pub zero-zero : (s : Bool) → is_zero w (zero_of w s) ≡ true
    zero-zero s = number_zero s infinite_pos ∙ eq-eqb 0 0 refl

  pub units-zero : units w 0 ≡ 0
  units-zero = units-low w 0 lead_pos

  pub units_pos : {m : ℕ} → 0 < m → 0 < units w m
  units_pos h = rw units-zero at (units_lt w h)

  -- every pattern is written out so, and is one of three
  pub written : (b : ℕ) → b < 2 * sign_bit w → b ≡ with_sign w (negative w b) (magnitude w b)
  written b h = go (sign_bit w) (leb (sign_bit w) b) h (leb-true (sign_bit w) b) (leb-false (sign_bit w) b)
    where
      low : (c b : ℕ) → b < c → b ≡ 0 + b % c
      low c b h = sym (zero-add (b % c) ∙ mod-eq_of_lt h)

      high : (c b : ℕ) → c ≤ b → b < 2 * c → b ≡ c + b % c
      high c b l h = back c b l ∙ ap (λ (x : ℕ). c + x) (sym (ap (λ (x : ℕ). x % c) (back c b l) ∙ add-mod_left c (b - c) ∙ mod-eq_of_lt (rest c b l h)))
        where
          back : (c b : ℕ) → c ≤ b → b ≡ c + (b - c)
          back c b l = omega arith

          rest : (c b : ℕ) → c ≤ b → b < 2 * c → b - c < c
          rest c b l h = omega arith

      go : (c : ℕ) (s : Bool) → b < 2 * c → (s ≡ true → c ≤ b) → (s ≡ false → b < c) → b ≡ cond s c 0 + b % c
      go c true h k l = high c b (k refl) h
      go c false h k l = low c b (l refl)

  pub form : (b : ℕ) → b < 2 * sign_bit w → Form w b
  form b h = subst (Form w) (sym (written b h)) (go (magnitude w b) (mod-lt b (mul-pos (pow_pos w.exponent) lead_pos)))
    where
      go : (m : ℕ) → m < sign_bit w → Form w (with_sign w (negative w b) m)
      go m h = elim (lt-or-le m (infinite w)) [
        | inl l ↦ is_number (negative w b) m l
        | inr g ↦ elim (eq-or-lt_of_le g) [
          | inl e ↦ rw (← e) (is_infinity (negative w b))
          | inr l ↦ subst (λ (x : ℕ). Form w (with_sign w (negative w b) x)) (back (infinite w) m g) (is_nan_lem (negative w b) (record { some = some (infinite w) m l; fits = fits (infinite w) m (lead w) g (rw top at h) }))
        ]
      ]
        where
          back : (a m : ℕ) → a ≤ m → a + (m - a) ≡ m
          back a m g = omega arith

          some : (a m : ℕ) → a < m → 0 < m - a
          some a m l = omega arith

          fits : (a m c : ℕ) → a ≤ m → m < a + c → m - a < c
          fits a m c g h = omega arith
