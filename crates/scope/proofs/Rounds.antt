-- `rounded` is the nearest magnitude, ties to even, and there is only one such. The quotient is off by less than its step, so
-- one of two neighbours is nearest; any other magnitude counts less than the lower or more than the upper one.
use Prim.Native.Nat.{ℕ, zero, suc, ◌+◌, ◌-◌, ◌*◌, ◌/◌, ◌%◌, ◌^◌, ◌≤◌, ◌<◌, compare, Ordering}
use native.Mathlib.Nat.{le_refl, le_trans, le_of_eq, le_of_lt, lt_of_lt_of_le, eq-or-lt_of_le, add-zero, suc-mul, mul_comm, mul_assoc, mul_left_comm, mul-pos, mul-le-mul_right, mul-lt-mul_of_pos_right, pow-succ', div-add-mod', mod-lt, div-div-eq-div-mul, le-div_iff_mul-le, min-eq_left, min-eq_right, le_antisymm, lt_irrefl, two-pow-succ, eq-zero-or-pos}
use native.Mathlib.Omega.{arith}
use mathlib.Core.Path.{◌≡◌, refl, sym, ap, ◌∙◌, subst}
use mathlib.Core.Bool.{true, false}
use mathlib.Core.Logic.{◌⊎◌, inl, inr, ⊎_elim}
use lib.Dec.{is_le, compare_is_eq}
use lib.Pow.{pow_pos, pow-add}
use lib.Ieee.{size, nearest}
use lib.Ieee.Digits.{size_reaches}
use lib.Ieee.Fits.{kept-lt}
use borrow.Author.Tests.{leb-true, leb-false, eqb-true, eqb-false}
use Rattle.scope.specs.Rounding.{Width, lead, infinite, units, gap, Nearest, rounded}
use Rattle.scope.proofs.Units.{lt-or-le, Form, units-at, units_lt, units-le}

-- ---- a quotient rounded: down, or up, and even where both are as near

data Side (v e u : ℕ) : ℕ → Type 0 where
  down : e * 2 ≤ u → (e * 2 ≡ u → v % 2 ≡ 0) → Side v e u v
  up : u ≤ e * 2 → (e * 2 ≡ u → suc v % 2 ≡ 0) → Side v e u (suc v)

side : (v e u : ℕ) → Side v e u (nearest v (compare (e * 2) u))
side v e u = go (compare (e * 2) u) (leb-true (e * 2) u) (leb-false (e * 2) u) (eqb-true (e * 2) u) (eqb-false (e * 2) u)
  where
    tie : (r : ℕ) → v % 2 ≡ r → e * 2 ≡ u → Side v e u (v + r)
    tie zero z h = subst (Side v e u) (sym (add-zero v)) (down (le_of_eq h) (λ _. z))
    tie (suc r) z h = subst (Side v e u) (one_more_lem v r z) (up (le_of_eq (sym h)) (λ _. next v r z))
      where
        one_more_lem : (v r : ℕ) → v % 2 ≡ suc r → suc v ≡ v + suc r
        one_more_lem v r z = omega arith

        next : (v r : ℕ) → v % 2 ≡ suc r → suc v % 2 ≡ 0
        next v r z = omega arith

    go : (o : Ordering) → (is_le o ≡ true → e * 2 ≤ u) → (is_le o ≡ false → u < e * 2) → (compare_is_eq o ≡ true → e * 2 ≡ u) → (compare_is_eq o ≡ false → e * 2 ≡ u → ⊥)
        → Side v e u (nearest v o)
    go Ordering.lt a b c d = down (a refl) (λ h. absurd (d refl h))
    go Ordering.eq a b c d = tie (v % 2) refl (c refl)
    go Ordering.gt a b c d = up (le_of_lt (b refl)) (λ h. absurd (d refl h))

-- ---- n lies e above a, and u is the step: how far from n a multiple is, and any other number
module _ (n a e u x : ℕ) (is : n ≡ a + e) (rest : e < u) where
  up_below : u ≤ e * 2 → x ≤ a → (gap n (a + u) ≤ gap n x) × (gap n (a + u) ≡ gap n x → e * 2 ≡ u)
  up_below h l = (omega arith, λ g. omega arith)

  up_above : a + u < x → gap n (a + u) < gap n x
  up_above l = omega arith

  down_below : x < a → gap n a < gap n x
  down_below l = omega arith

  down_above : e * 2 ≤ u → a + u ≤ x → (gap n a ≤ gap n x) × (gap n a ≡ gap n x → e * 2 ≡ u)
  down_above h l = (omega arith, λ g. omega arith)

-- ---- among all magnitudes, as if there were no greatest
module _ (w : Width) (n d : ℕ) where
  -- r is as near as any m, and even where m is another that is as near
  record Near (r m : ℕ) : Type 0 where
    pub closest : gap n (units w r * d) ≤ gap n (units w m * d)
    pub even : (m ≡ r → ⊥) → gap n (units w r * d) ≡ gap n (units w m * d) → r % 2 ≡ 0

  strictly : {r m : ℕ} → gap n (units w r * d) < gap n (units w m * d) → Near r m
  strictly {r} {m} h = record { closest = le_of_lt h; even = λ o g. absurd (omega arith) }

  itself : (r : ℕ) → Near r r
  itself r = record { closest = le_refl (gap n (units w r * d)); even = λ o g. absurd (o refl) }

even_lead : (w : Width) (k q : ℕ) → 0 < w.digits → q % 2 ≡ 0 → (k * lead w + q) % 2 ≡ 0
even_lead w k q h e = go w.digits h
  where
    twice : (x q : ℕ) → q % 2 ≡ 0 → (2 * x + q) % 2 ≡ 0
    twice x q e = omega arith

    go : (g : ℕ) → 0 < g → (k * 2 ^ g + q) % 2 ≡ 0
    go zero h = absurd (omega arith)
    go (suc g) h = rw (pow-succ' 2 g, mul_left_comm k 2 (2 ^ g)) (twice (k * 2 ^ g) q e)

module _ (w : Width) (n d k v : ℕ) (D : 0 < d) (some_digit : 0 < w.digits) (form : Form w k v) (short : v < lead w + lead w)
    (quotient : n / (d * 2 ^ k) ≡ v) where
  abbrev e : ℕ
  e = n % (d * 2 ^ k)

  next : Form w k (suc v)
  next = record { leads = ⊎_elim (λ z. inl z) (λ l. inr (omega arith)) form.leads; fits = omega arith }

  counts : (q : ℕ) → Form w k q → units w (k * lead w + q) * d ≡ q * (d * 2 ^ k)
  counts q f = rw (units-at w k q f, mul_assoc q (2 ^ k) d, mul_comm (2 ^ k) d)

  is : n ≡ v * (d * 2 ^ k) + e
  is = sym (ap (λ (x : ℕ). x * (d * 2 ^ k) + e) (sym quotient) ∙ div-add-mod' n (d * 2 ^ k))

  rest : e < d * 2 ^ k
  rest = mod-lt n (mul-pos D (pow_pos k))

  -- others, below and above
  below : {r m : ℕ} → m < r → units w m * d < units w r * d
  below h = mul-lt-mul_of_pos_right (units_lt w h) D

  upto : {r m : ℕ} → m ≤ r → units w m * d ≤ units w r * d
  upto h = mul-le-mul_right d (units-le w h)

  -- the multiple after v
  after : suc v * (d * 2 ^ k) ≡ v * (d * 2 ^ k) + d * 2 ^ k
  after = suc-mul v (d * 2 ^ k)

  next_is : suc (k * lead w + v) ≡ k * lead w + suc v
  next_is = omega arith

  near_down : e * 2 ≤ d * 2 ^ k → (e * 2 ≡ d * 2 ^ k → v % 2 ≡ 0) → (m : ℕ) → (m < k * lead w + v) ⊎ (k * lead w + v ≤ m) → Near w n d (k * lead w + v) m
  near_down h t m (inl l) =
      strictly w n d (rw (counts v form) (down_below n (v * (d * 2 ^ k)) e (d * 2 ^ k) (units w m * d) is rest (rw (counts v form) at (below l))))
  near_down h t m (inr g) = elim (eq-or-lt_of_le g) [
    | inl z ↦ rw z (itself w n d m)
    | inr l ↦
        let x : v * (d * 2 ^ k) + d * 2 ^ k ≤ units w m * d = rw (next_is, counts (suc v) next, after) at (upto l) in
        let s = down_above n (v * (d * 2 ^ k)) e (d * 2 ^ k) (units w m * d) is rest h x in
        record { closest = rw (counts v form) s.0; even = λ o z. even_lead w k v some_digit (t (s.1 (rw (counts v form) at z))) }
  ]

  near_up : d * 2 ^ k ≤ e * 2 → (e * 2 ≡ d * 2 ^ k → suc v % 2 ≡ 0) → (m : ℕ) → (m < k * lead w + suc v) ⊎ (k * lead w + suc v ≤ m) → Near w n d (k * lead w + suc v) m
  near_up h t m (inl l) =
      let l' : m ≤ k * lead w + v = omega arith in
      let x : units w m * d ≤ v * (d * 2 ^ k) = rw (counts v form) at (upto l') in
      let s = up_below n (v * (d * 2 ^ k)) e (d * 2 ^ k) (units w m * d) is rest h x in
      record { closest = rw (counts (suc v) next, after) s.0; even = λ o z. even_lead w k (suc v) some_digit (t (s.1 (rw (counts (suc v) next, after) at z))) }
  near_up h t m (inr g) = elim (eq-or-lt_of_le g) [
    | inl z ↦ rw z (itself w n d m)
    | inr l ↦
        strictly w n d (rw (counts (suc v) next, after) (up_above n (v * (d * 2 ^ k)) e (d * 2 ^ k) (units w m * d) is rest (rw (counts (suc v) next, after) at (below l))))
  ]

  near : {q : ℕ} → Side v e (d * 2 ^ k) q → (m : ℕ) → Near w n d (k * lead w + q) m
  near (down h t) m = near_down h t m (lt-or-le m (k * lead w + v))
  near (up h t) m = near_up h t m (lt-or-le m (k * lead w + suc v))

-- ---- with the greatest one
module _ (w : Width) (n d : ℕ) (D : 0 < d) (some_digit : 0 < w.digits) where
  abbrev pub whole : ℕ
  whole = n / d

  abbrev pub dropped : ℕ
  dropped = size whole - suc w.digits

  abbrev pub kept : ℕ
  kept = n / (d * 2 ^ dropped)

  pair : lead w + lead w ≡ 2 ^ suc w.digits
  pair = sym (two-pow-succ w.digits)

  kept_short : kept < lead w + lead w
  kept_short = rw pair (rw (div-div-eq-div-mul n d (2 ^ dropped)) at (kept-lt (suc w.digits) whole))

  all_in_use : (z p : ℕ) → 0 < z - suc p → p + (z - suc p) < z
  all_in_use z p h = omega arith

  kept_leads : (dropped ≡ 0) ⊎ (lead w ≤ kept)
  kept_leads = elim (eq-zero-or-pos dropped) [
    | inl z ↦ inl z
    | inr h ↦
        let a : lead w * 2 ^ dropped ≤ whole = le_trans (le_of_eq (sym (pow-add 2 w.digits dropped))) (size_reaches whole (w.digits + dropped) (all_in_use (size whole) w.digits h)) in
        inr (rw (div-div-eq-div-mul n d (2 ^ dropped)) at ((le-div_iff_mul-le (pow_pos dropped)).1 a))
  ]

  kept_form_lem : Form w dropped kept
  kept_form_lem = record { leads = kept_leads; fits = le_of_lt kept_short }

  -- before the greatest one is looked at
  abbrev pub closest : ℕ
  closest = nearest kept (compare (n % (d * 2 ^ dropped) * 2) (d * 2 ^ dropped))

  pub rounded_form : Form w dropped closest
  rounded_form = go (side kept (n % (d * 2 ^ dropped)) (d * 2 ^ dropped))
    where
      go : {q : ℕ} → Side kept (n % (d * 2 ^ dropped)) (d * 2 ^ dropped) q → Form w dropped q
      go (down h t) = kept_form_lem
      go (up h t) = record { leads = ⊎_elim (λ z. inl z) (λ l. inr (omega arith)) kept_leads; fits = kept_short }

  abbrev free : ℕ
  free = dropped * lead w + closest

  free_near : (m : ℕ) → Near w n d free m
  free_near = near w n d dropped kept D some_digit kept_form_lem kept_short refl (side kept (n % (d * 2 ^ dropped)) (d * 2 ^ dropped))

  beyond : (x y z : ℕ) → gap n z ≤ gap n y → x < y → y < z → gap n y < gap n x
  beyond x y z h k l = omega arith

  pub rounded_nearest : Nearest w n d (rounded w n d)
  unfolding rounded
  rounded_nearest = elim (lt-or-le (infinite w) free) [
    | inl l ↦ rw (min-eq_right (le_of_lt l)) (capped l)
    | inr h ↦ rw (min-eq_left h) record { within = h; closest = λ m _. (free_near m).closest; even = λ m _. (free_near m).even }
  ]
    where
      capped : infinite w < free → Nearest w n d (infinite w)
      capped l = record { within = le_refl (infinite w); closest = λ m h. (at m h).closest; even = λ m h. (at m h).even }
        where
          at : (m : ℕ) → m ≤ infinite w → Near w n d (infinite w) m
          at m h = elim (eq-or-lt_of_le h) [
            | inl e ↦ rw e (itself w n d (infinite w))
            | inr g ↦
                strictly w n d
                (beyond (units w m * d) (units w (infinite w) * d) (units w free * d) (free_near (infinite w)).closest (mul-lt-mul_of_pos_right (units_lt w g) D) (mul-lt-mul_of_pos_right (units_lt w l) D))
          ]

  -- two that are nearest are the same: both would be even, and what lies between them nearer
  between : (x y z : ℕ) → x < y → y < z → gap n x ≡ gap n z → gap n y < gap n x
  between x y z h k e = omega arith

  apart : (r s : ℕ) → r < s → r % 2 ≡ 0 → s % 2 ≡ 0 → suc r < s
  apart r s h e f = omega arith

  one_below : {r s : ℕ} → Nearest w n d r → Nearest w n d s → r < s → ⊥
  one_below {r} {s} p q h =
      let same : gap n (units w r * d) ≡ gap n (units w s * d) = le_antisymm (p.closest s q.within) (q.closest r p.within) in
      let er : r % 2 ≡ 0 = p.even s q.within (λ z. omega arith) same in
      let es : s % 2 ≡ 0 = q.even r p.within (λ z. omega arith) (sym same) in
      let far : suc r < s = apart r s h er es in
      let inside : suc r ≤ infinite w = le_trans (le_of_lt far) q.within in
      let nearer : gap n (units w (suc r) * d) < gap n (units w r * d) =
      between (units w r * d) (units w (suc r) * d) (units w s * d) (mul-lt-mul_of_pos_right (units_lt w (le_refl (suc r))) D) (mul-lt-mul_of_pos_right (units_lt w far) D) same in
      lt_irrefl (gap n (units w (suc r) * d)) (lt_of_lt_of_le nearer (p.closest (suc r) inside))

  pub nearest_unique : {r s : ℕ} → Nearest w n d r → Nearest w n d s → r ≡ s
  nearest_unique {r} {s} p q = elim (lt-or-le r s) [
    | inl l ↦ absurd (one_below p q l)
    | inr g ↦ elim (eq-or-lt_of_le g) [ inl e ↦ sym e | inr l ↦ absurd (one_below q p l) ]
  ]

  -- what needs no rounding stays as it is
  pub rounded_exact : (m : ℕ) → m ≤ infinite w → n ≡ units w m * d → rounded w n d ≡ m
  rounded_exact m h e = elim (lt-or-le (rounded w n d) m) [
    | inl l ↦ absurd (off (units w (rounded w n d) * d) (units w m * d) (mul-lt-mul_of_pos_right (units_lt w l) D) (rounded_nearest.closest m h) e)
    | inr g ↦ elim (eq-or-lt_of_le g) [
      | inl z ↦ sym z
      | inr l ↦ absurd (over (units w (rounded w n d) * d) (units w m * d) (mul-lt-mul_of_pos_right (units_lt w l) D) (rounded_nearest.closest m h) e)
    ]
  ]
    where
      off : (x y : ℕ) → x < y → gap n x ≤ gap n y → n ≡ y → ⊥
      off x y l c z = omega arith

      over : (x y : ℕ) → y < x → gap n x ≤ gap n y → n ≡ y → ⊥
      over x y l c z = omega arith
