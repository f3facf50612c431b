-- Each float operation of the definitions, on bits, is the language's operation on what the bits are read as, written as bits:
-- at both formats, NaNs among the operands included.
use Prim.Native.Nat.{ℕ, ◌+◌, ◌-◌, ◌*◌, ◌%◌, ◌^◌, ◌≤◌, ◌<◌, zero-le}
use native.Mathlib.Nat.{le_of_eq, le_of_lt, zero-lt-suc, mul-one, mul_comm, mul_assoc, mul_left_comm, mul_right_comm, mul-mul-mul_comm, mul-pos, add-mul, mul-sub, mul-lt-mul_of_pos_right, lt_of_mul-lt-mul_right, mul-le-mul_right, le_of_mul-le-mul_right, le_antisymm, lt_irrefl, zero-mul, add-mod_left, mod-eq_of_lt, mod-lt, zero-add, eq_of_mul-eq-mul_right}
use native.Mathlib.Omega.{arith}
use mathlib.Core.Path.{◌≡◌, refl, sym, ap, ◌∙◌}
use mathlib.Core.Bool.{Bool, true, false, cond, not, ◌&&◌, ◌||◌, beq}
use lib.IntN.{ℤ, pos}
use lib.Dec.{leb, ltb, eqb}
use lib.Pow.{pow_pos}
use lib.Ieee as Ieee
use lib.Arith.{lt_of_le-ne}
use lib.Ieee.{Float, lt, eq, nan, inf, fin, Format, binary32, binary64, size, prec, low, up, down, round, sum, add, sub, mul, div, neg, of_bits, to_bits}
use lib.Ieee.Fits.{down_pos, up_pos}
use borrow.Author.Tests.{lt-ltb, le-ltb, eq-eqb, ne_eqb, ltb-true, ltb-false, eqb-true, eqb-false, lt-leb, le-leb}
use Rattle.scope.specs.Rounding.{Width, sign_bit, infinite, units, one, rounded}
use Rattle.scope.specs.Floats.{negative, magnitude, with_sign, canonical_nan, unlike, sum_of, float_add, float_sub, float_mul, float_div, float_neg, less_signed, same_signed, float_less, float_equal}
use Rattle.scope.proofs.Units.{units-low, units_lt}
use Rattle.run_float_bits.specs.Formats.{width_of}
use Rattle.run_float_bits.proofs.Written.{not-above, same_lead, same_infinite, same_one, bits_of_round, bits_of_inf}
use Rattle.run_float_bits.proofs.Patterns.{rounded_same, Reads, reads_nan, reads_infinity, reads_finite, reads}

bits_of_nan : (f : Format) → to_bits f nan ≡ canonical_nan (width_of f)
unfolding to_bits
bits_of_nan f = rw (same_infinite f, same_lead f)

-- a rounding of a / c is one of x / d units, where they are as many
rounds : (f : Format) (s : Bool) (a c x d : ℕ) → 0 < c → 0 < d → a * 2 ^ low f * d ≡ x * c → to_bits f (round f s a c) ≡ with_sign (width_of f) s (rounded (width_of f) x d)
rounds f s a c x d C D e =
    bits_of_round f s a c C
    ∙ ap (with_sign (width_of f) s) (rounded_same (width_of f) (a * one (width_of f)) c x d C D (rw (same_one f) e))

-- tests on two numbers agree with those on the same fractions' numerators
ltb_same : (a b x y c l : ℕ) → 0 < c → 0 < l → a * l ≡ x * c → b * l ≡ y * c → ltb a b ≡ ltb x y
ltb_same a b x y c l C L p q = go (ltb x y) (ltb-true x y) (ltb-false x y)
  where
    go : (t : Bool) → (t ≡ true → x < y) → (t ≡ false → y ≤ x) → ltb a b ≡ t
    go true h g = lt-ltb a b (lt_of_mul-lt-mul_right l (rw (p, q) (mul-lt-mul_of_pos_right (h refl) C)))
    go false h g = le-ltb a b (le_of_mul-le-mul_right (rw (p, q) (mul-le-mul_right c (g refl))) L)

module _ (f : Format) (a b x y c : ℕ) (C : 0 < c) (p : a * 2 ^ low f ≡ x * c) (q : b * 2 ^ low f ≡ y * c) where
  plus_scaled : (a + b) * 2 ^ low f * 1 ≡ (x + y) * c
  plus_scaled = rw (mul-one, add-mul a b (2 ^ low f), add-mul x y c, p, q)

  less_scaled : (a - b) * 2 ^ low f * 1 ≡ (x - y) * c
  less_scaled = rw (mul-one, mul_comm (a - b) (2 ^ low f), mul-sub (2 ^ low f) a b, mul_comm (x - y) c, mul-sub c x y, mul_comm (2 ^ low f) a, mul_comm (2 ^ low f) b, mul_comm c x, mul_comm c y, p, q)

module _ (f : Format) (s t : Bool) (a b x y c : ℕ) (C : 0 < c) (p : a * 2 ^ low f ≡ x * c) (q : b * 2 ^ low f ≡ y * c) where
  sum_bits : to_bits f (sum f s a t b c) ≡ sum_of (width_of f) s x t y
  unfolding sum
  sum_bits = rw (ltb_same a b x y c (2 ^ low f) C (pow_pos (low f)) p q, ltb_same b a y x c (2 ^ low f) C (pow_pos (low f)) q p) (go (beq s t) (ltb x y))
    where
      go : (u v : Bool) → to_bits f (cond u (round f s (a + b) c) (cond v (round f t (b - a) c) (round f (s && ltb y x) (a - b) c)))
          ≡ cond u (with_sign (width_of f) s (rounded (width_of f) (x + y) 1)) (cond v (with_sign (width_of f) t (rounded (width_of f) (y - x) 1)) (with_sign (width_of f) (s && ltb y x) (rounded (width_of f) (x - y) 1)))
      go true v = rounds f s (a + b) c (x + y) 1 C (zero-lt-suc 0) (plus_scaled f a b x y c C p q)
      go false true = rounds f t (b - a) c (y - x) 1 C (zero-lt-suc 0) (less_scaled f b a y x c C q p)
      go false false = rounds f (s && ltb y x) (a - b) c (x - y) 1 C (zero-lt-suc 0) (less_scaled f a b x y c C p q)

-- n / e and the other's power, over both powers, are as many units
cross : (n u d v l c : ℕ) → n * u * l ≡ v * d → n * u * c * l ≡ v * (d * c)
cross n u d v l c e = mul_right_comm (n * u) c l ∙ ap (λ (z : ℕ). z * c) e ∙ mul_assoc v d c

opposed : (f : Format) (s t : Bool) → to_bits f (cond (beq s t) (inf s) nan) ≡ cond (unlike s t) (canonical_nan (width_of f)) (with_sign (width_of f) s (infinite (width_of f)))
opposed f s t = go (beq s t)
  where
    go : (u : Bool) → to_bits f (cond u (inf s) nan) ≡ cond (not u) (canonical_nan (width_of f)) (with_sign (width_of f) s (infinite (width_of f)))
    go true = bits_of_inf f s
    go false = bits_of_nan f

-- zero is zero
units-zero : (w : Width) → units w 0 ≡ 0
units-zero w = units-low w 0 (pow_pos w.digits)

units_pos : (w : Width) (m : ℕ) → 0 < m → 0 < units w m
units_pos w m h = rw (units-zero w) at (units_lt w h)

nonzero : (n : ℕ) → (n ≡ 0 → ⊥) → 0 < n
nonzero n h = omega arith

zero_same : (f : Format) (n : ℕ) (e : ℤ) (m : ℕ) → n * up e * 2 ^ low f ≡ units (width_of f) m * down e → eqb n 0 ≡ eqb m 0
zero_same f n e m v = go (eqb m 0) (eqb-true m 0) (eqb-false m 0)
  where
    go : (t : Bool) → (t ≡ true → m ≡ 0) → (t ≡ false → m ≡ 0 → ⊥) → eqb n 0 ≡ t
    go true h g = eq-eqb n 0 (le_antisymm (not-above (λ (l : 0 < n). lt_irrefl 0 (rw (v, h refl, units-zero (width_of f), zero-mul) at (mul-pos (mul-pos l (up_pos e)) (pow_pos (low f)))))) zero-le)
    go false h g = ne_eqb n 0 (λ z. lt_irrefl 0 (rw (← v, z, zero-mul, zero-mul) at (mul-pos (units_pos (width_of f) m (nonzero m (g refl))) (down_pos e))))

infinite_pos : (f : Format) → 0 < infinite (width_of f)
infinite_pos f = rw (same_infinite f) (mul-pos (omega arith) (pow_pos (prec f - 1)))

-- an infinite magnitude is not zero
infinite-not-zero : (f : Format) (m : ℕ) → eqb m (infinite (width_of f)) ≡ true → eqb m 0 ≡ false
infinite-not-zero f m i =
    let h : 0 < infinite (width_of f) = infinite_pos f in
    ne_eqb m 0 (λ z. omega (arith, eqb-true m (infinite (width_of f)) i))

zero_or : (f : Format) (u s : Bool) → to_bits f (cond u nan (inf s)) ≡ cond u (canonical_nan (width_of f)) (with_sign (width_of f) s (infinite (width_of f)))
zero_or f true s = bits_of_nan f
zero_or f false s = bits_of_inf f s

or-zero : (f : Format) (u s : Bool) → to_bits f (cond u nan (inf s)) ≡ cond (u || false) (canonical_nan (width_of f)) (with_sign (width_of f) s (infinite (width_of f)))
or-zero f true s = bits_of_nan f
or-zero f false s = bits_of_inf f s

bits_of_zero : (f : Format) (s : Bool) → to_bits f (fin s 0 (pos 0)) ≡ with_sign (width_of f) s 0
unfolding to_bits size
bits_of_zero binary32 true = refl
bits_of_zero binary32 false = refl
bits_of_zero binary64 true = refl
bits_of_zero binary64 false = refl

quotient_scaled : (m l a d o b e : ℕ) → m * l ≡ a * d → o * l ≡ b * e → m * e * l * b ≡ a * l * (o * d)
quotient_scaled m l a d o b e p q =
    let x : m * e * l * b ≡ m * l * (e * b) = simp (mul_assoc, mul_comm) in
    let y : a * d * (e * b) ≡ a * d * (b * e) = ap (λ (z : ℕ). a * d * z) (mul_comm e b) in
    let z : a * d * (o * l) ≡ a * l * (o * d) = simp (mul_assoc, mul_comm, mul_left_comm) in
    x ∙ ap (λ (z : ℕ). z * (e * b)) p ∙ y ∙ ap (λ (z : ℕ). a * d * z) (sym q) ∙ z

module _ (f : Format) (a b : ℕ) where
  abbrev pub A : ℕ
  A = units (width_of f) (magnitude (width_of f) a)

  abbrev pub B : ℕ
  B = units (width_of f) (magnitude (width_of f) b)

  add_reads : {x y : Float} → Reads f (negative (width_of f) a) (magnitude (width_of f) a) x → Reads f (negative (width_of f) b) (magnitude (width_of f) b) y
      → to_bits f (add f x y) ≡ float_add (width_of f) a b
  unfolding add float_add
  add_reads (reads_nan n) r = rw n (bits_of_nan f)
  add_reads (reads_infinity n i) (reads_nan k) = rw (n, k) (bits_of_nan f)
  add_reads (reads_infinity n i) (reads_infinity k j) = rw (n, k, i, j) (opposed f (negative (width_of f) a) (negative (width_of f) b))
  add_reads (reads_infinity n i) (reads_finite k j e v) = rw (n, k, i, j) (bits_of_inf f (negative (width_of f) a))
  add_reads (reads_finite n i e v) (reads_nan k) = rw (n, k) (bits_of_nan f)
  add_reads (reads_finite n i e v) (reads_infinity k j) = rw (n, k, i, j) (bits_of_inf f (negative (width_of f) b))
  add_reads (reads_finite {t = s} {n = m} {e = p} n i e v) (reads_finite {t = t} {n = o} {e = q} k j g x) =
      rw (n, k, i, j, ← e, ← g)
      (sum_bits f s t (m * up p * down q) (o * up q * down p) A B (down p * down q) (mul-pos (down_pos p) (down_pos q))
      (cross m (up p) (down p) A (2 ^ low f) (down q) v)
      (rw (mul_comm (down p) (down q)) (cross o (up q) (down q) B (2 ^ low f) (down p) x)))

  pub add_is : to_bits f (add f (of_bits f a) (of_bits f b)) ≡ float_add (width_of f) a b
  add_is = add_reads (reads f a) (reads f b)

  mul_reads : {x y : Float} → Reads f (negative (width_of f) a) (magnitude (width_of f) a) x → Reads f (negative (width_of f) b) (magnitude (width_of f) b) y
      → to_bits f (mul f x y) ≡ float_mul (width_of f) a b
  unfolding mul float_mul
  mul_reads (reads_nan n) r = rw n (bits_of_nan f)
  mul_reads (reads_infinity n i) (reads_nan k) = rw (n, k) (bits_of_nan f)
  mul_reads (reads_infinity n i) (reads_infinity k j) =
      rw (n, k, i, infinite-not-zero f (magnitude (width_of f) a) i, infinite-not-zero f (magnitude (width_of f) b) j) (bits_of_inf f (unlike (negative (width_of f) a) (negative (width_of f) b)))
  mul_reads (reads_infinity n i) (reads_finite {t = t} {n = o} {e = q} k j g x) =
      rw (n, k, i, infinite-not-zero f (magnitude (width_of f) a) i, zero_same f o q (magnitude (width_of f) b) x, g) (zero_or f (eqb (magnitude (width_of f) b) 0) (unlike (negative (width_of f) a) (negative (width_of f) b)))
  mul_reads (reads_finite n i e v) (reads_nan k) = rw (n, k) (bits_of_nan f)
  mul_reads (reads_finite {t = s} {n = m} {e = p} n i e v) (reads_infinity k j) =
      rw (n, k, i, j, infinite-not-zero f (magnitude (width_of f) b) j, zero_same f m p (magnitude (width_of f) a) v, e) (or-zero f (eqb (magnitude (width_of f) a) 0) (unlike (negative (width_of f) a) (negative (width_of f) b)))
  mul_reads (reads_finite {t = s} {n = m} {e = p} n i e v) (reads_finite {t = t} {n = o} {e = q} k j g x) =
      rw (n, k, i, j, ← e, ← g)
      (rounds f (unlike s t) (m * up p * (o * up q)) (down p * down q) (A * B) (one (width_of f)) (mul-pos (down_pos p) (down_pos q)) (pow_pos _)
      (rw (same_one f) (mul_assoc (m * up p * (o * up q)) (2 ^ low f) (2 ^ low f) ∙ mul-mul-mul_comm (m * up p) (o * up q) (2 ^ low f) (2 ^ low f) ∙ rw (v, x) (mul-mul-mul_comm A (down p) B (down q)))))

  pub mul_is : to_bits f (mul f (of_bits f a) (of_bits f b)) ≡ float_mul (width_of f) a b
  mul_is = mul_reads (reads f a) (reads f b)

  div_reads : {x y : Float} → Reads f (negative (width_of f) a) (magnitude (width_of f) a) x → Reads f (negative (width_of f) b) (magnitude (width_of f) b) y
      → to_bits f (div f x y) ≡ float_div (width_of f) a b
  unfolding div float_div
  div_reads (reads_nan n) r = rw n (bits_of_nan f)
  div_reads (reads_infinity n i) (reads_nan k) = rw (n, k) (bits_of_nan f)
  div_reads (reads_infinity n i) (reads_infinity k j) = rw (n, k, i, j) (bits_of_nan f)
  div_reads (reads_infinity n i) (reads_finite {t = t} {n = o} {e = q} k j g x) = rw (n, k, i, j, g) (bits_of_inf f (unlike (negative (width_of f) a) (negative (width_of f) b)))
  div_reads (reads_finite n i e v) (reads_nan k) = rw (n, k) (bits_of_nan f)
  div_reads (reads_finite {t = s} {n = m} {e = p} n i e v) (reads_infinity k j) = rw (n, k, i, j, e) (bits_of_zero f (unlike (negative (width_of f) a) (negative (width_of f) b)))
  div_reads (reads_finite {t = s} {n = m} {e = p} n i e v) (reads_finite {t = t} {n = o} {e = q} k j g x) =
      rw (n, k, i, j, ← e, ← g, zero_same f o q (magnitude (width_of f) b) x, zero_same f m p (magnitude (width_of f) a) v)
      (quotient (eqb (magnitude (width_of f) b) 0) (eqb-false (magnitude (width_of f) b) 0))
    where
      quotient : (u : Bool) → (u ≡ false → magnitude (width_of f) b ≡ 0 → ⊥)
          → to_bits f (cond u (cond (eqb (magnitude (width_of f) a) 0) nan (inf (unlike s t))) (round f (unlike s t) (m * up p * down q) (o * up q * down p)))
          ≡ cond u (cond (eqb (magnitude (width_of f) a) 0) (canonical_nan (width_of f)) (with_sign (width_of f) (unlike s t) (infinite (width_of f)))) (with_sign (width_of f) (unlike s t) (rounded (width_of f) (A * one (width_of f)) B))
      quotient true h = zero_or f (eqb (magnitude (width_of f) a) 0) (unlike s t)
      quotient false h = rounds f (unlike s t) (m * up p * down q) (o * up q * down p) (A * one (width_of f)) B (mul-pos (mul-pos (nonzero o (λ z. h refl (eqb-true (magnitude (width_of f) b) 0 (sym (zero_same f o q (magnitude (width_of f) b) x) ∙ eq-eqb o 0 z)))) (up_pos q)) (down_pos p)) (units_pos (width_of f) (magnitude (width_of f) b) (nonzero (magnitude (width_of f) b) (h refl)))
          (rw (same_one f) (quotient_scaled (m * up p) (2 ^ low f) A (down p) (o * up q) B (down q) v x))

  pub div_is : to_bits f (div f (of_bits f a) (of_bits f b)) ≡ float_div (width_of f) a b
  div_is = div_reads (reads f a) (reads f b)

-- neg turns the sign bit
turned : (c : ℕ) (s : Bool) (m : ℕ) → m < c → (leb c (cond s c 0 + m) ≡ s) × ((cond s c 0 + m) % c ≡ m)
turned c true m h = (le-leb c (c + m) (omega arith), add-mod_left c m ∙ mod-eq_of_lt h)
turned c false m h = (lt-leb c (0 + m) (omega arith), rw (zero-add m) (mod-eq_of_lt h))

module _ (f : Format) (b : ℕ) where
  turn : (negative (width_of f) (float_neg (width_of f) b) ≡ not (negative (width_of f) b)) × (magnitude (width_of f) (float_neg (width_of f) b) ≡ magnitude (width_of f) b)
  unfolding float_neg
  turn = turned (sign_bit (width_of f)) (not (negative (width_of f) b)) (magnitude (width_of f) b) (mod-lt b (mul-pos (pow_pos (width_of f).exponent) (pow_pos (width_of f).digits)))

  negated_reads : {x : Float} → Reads f (negative (width_of f) b) (magnitude (width_of f) b) x → Reads f (negative (width_of f) (float_neg (width_of f) b)) (magnitude (width_of f) (float_neg (width_of f) b)) (neg x)
  unfolding neg
  negated_reads (reads_nan n) = rw (turn.0, turn.1) (reads_nan n)
  negated_reads (reads_infinity n i) = rw (turn.0, turn.1) (reads_infinity n i)
  negated_reads (reads_finite {t = t} {n = m} {e = q} n i e v) = rw (turn.0, turn.1) (reads_finite {e = q} n i (ap not e) v)

  pub sub_is : (a : ℕ) → to_bits f (sub f (of_bits f a) (of_bits f b)) ≡ float_sub (width_of f) a b
  unfolding sub float_sub
  sub_is a = add_reads f a (float_neg (width_of f) b) (reads f a) (negated_reads (reads f b))

-- comparisons
scaled_below : (s t : Bool) (x y u v c l : ℕ) → 0 < c → 0 < l → x * l ≡ u * c → y * l ≡ v * c → Ieee.below s x t y ≡ less_signed s u t v
scaled_below false false x y u v c l C L p q = ltb_same x y u v c l C L p q
scaled_below false true x y u v c l C L p q = refl
scaled_below true false x y u v c l C L p q = ltb_same 0 (x + y) 0 (u + v) c l C L (zero-mul l ∙ sym (zero-mul c)) (add-mul x y l ∙ rw (p, q) (sym (add-mul u v c)))
scaled_below true true x y u v c l C L p q = ltb_same y x v u c l C L q p

eqb_same : (a b x y c l : ℕ) → 0 < c → 0 < l → a * l ≡ x * c → b * l ≡ y * c → eqb a b ≡ eqb x y
eqb_same a b x y c l C L p q = go (eqb x y) (eqb-true x y) (eqb-false x y)
  where
    go : (t : Bool) → (t ≡ true → x ≡ y) → (t ≡ false → x ≡ y → ⊥) → eqb a b ≡ t
    go true h g = eq-eqb a b (eq_of_mul-eq-mul_right l L a b (p ∙ ap (λ (z : ℕ). z * c) (h refl) ∙ sym q))
    go false h g = ne_eqb a b (λ z. g refl (eq_of_mul-eq-mul_right c C x y (sym p ∙ ap (λ (z : ℕ). z * l) z ∙ q)))

-- an infinite magnitude beside another
both-infinite : (s t : Bool) (u v : ℕ) → u ≡ v → 0 < v → (s && not t) ≡ less_signed s u t v
both-infinite false false u v e h = sym (le-ltb u v (le_of_eq (sym e)))
both-infinite false true u v e h = refl
both-infinite true false u v e h = sym (lt-ltb 0 (u + v) (omega arith))
both-infinite true true u v e h = sym (le-ltb v u (le_of_eq e))

first_infinite : (s t : Bool) (u v : ℕ) → v < u → s ≡ less_signed s u t v
first_infinite false false u v h = sym (le-ltb u v (le_of_lt h))
first_infinite false true u v h = refl
first_infinite true false u v h = sym (lt-ltb 0 (u + v) (omega arith))
first_infinite true true u v h = sym (lt-ltb v u h)

second_infinite : (s t : Bool) (u v : ℕ) → u < v → not t ≡ less_signed s u t v
second_infinite false false u v h = sym (lt-ltb u v h)
second_infinite false true u v h = refl
second_infinite true false u v h = sym (lt-ltb 0 (u + v) (omega arith))
second_infinite true true u v h = sym (le-ltb v u (le_of_lt h))

same_sign_only : (s t : Bool) (u v : ℕ) → u ≡ v → 0 < u → beq s t ≡ same_signed s u t v
same_sign_only s t u v e h = rw (eq-eqb u v e, ne_eqb u 0 (λ z. omega arith)) (or_false (beq s t))
  where
    or_false : (b : Bool) → b ≡ (b || false)
    or_false true = refl
    or_false false = refl

not_level : (s t : Bool) (u v : ℕ) → (u ≡ v → ⊥) → false ≡ same_signed s u t v
not_level s t u v h = rw (ne_eqb u v h)

module _ (f : Format) (a b : ℕ) where
  -- how an infinite and a finite magnitude count
  top_is : (m : ℕ) → eqb m (infinite (width_of f)) ≡ true → units (width_of f) m ≡ units (width_of f) (infinite (width_of f))
  top_is m i = ap (units (width_of f)) (eqb-true m (infinite (width_of f)) i)

  above : (o m : ℕ) → eqb o (infinite (width_of f)) ≡ true → ltb (infinite (width_of f)) m ≡ false → eqb m (infinite (width_of f)) ≡ false → units (width_of f) m < units (width_of f) o
  above o m z n i = rw (top_is o z) (units_lt (width_of f) (lt_of_le-ne (ltb-false (infinite (width_of f)) m n) (eqb-false m (infinite (width_of f)) i)))

  top_pos : (m : ℕ) → eqb m (infinite (width_of f)) ≡ true → 0 < units (width_of f) m
  top_pos m i = rw (top_is m i) (units_pos (width_of f) (infinite (width_of f)) (infinite_pos f))

  less_reads : {x y : Float} → Reads f (negative (width_of f) a) (magnitude (width_of f) a) x → Reads f (negative (width_of f) b) (magnitude (width_of f) b) y
      → lt x y ≡ float_less (width_of f) a b
  unfolding lt float_less
  less_reads (reads_nan n) r = rw n
  less_reads (reads_infinity n i) (reads_nan k) = rw (n, k)
  less_reads (reads_infinity n i) (reads_infinity k j) =
      rw (n, k) (both-infinite (negative (width_of f) a) (negative (width_of f) b) (A f a b) (B f a b) (top_is (magnitude (width_of f) a) i ∙ sym (top_is (magnitude (width_of f) b) j)) (top_pos (magnitude (width_of f) b) j))
  less_reads (reads_infinity n i) (reads_finite {t = t} {n = o} {e = q} k j g x) =
      rw (n, k) (first_infinite (negative (width_of f) a) (negative (width_of f) b) (A f a b) (B f a b) (above (magnitude (width_of f) a) (magnitude (width_of f) b) i k j))
  less_reads (reads_finite n i e v) (reads_nan k) = rw (n, k)
  less_reads (reads_finite {t = s} {n = m} {e = p} n i e v) (reads_infinity k j) =
      rw (n, k) (second_infinite (negative (width_of f) a) (negative (width_of f) b) (A f a b) (B f a b) (above (magnitude (width_of f) b) (magnitude (width_of f) a) j n i))
  less_reads (reads_finite {t = s} {n = m} {e = p} n i e v) (reads_finite {t = t} {n = o} {e = q} k j g x) =
      rw (n, k, ← e, ← g)
      (scaled_below s t (m * up p * down q) (o * up q * down p) (A f a b) (B f a b) (down p * down q) (2 ^ low f) (mul-pos (down_pos p) (down_pos q)) (pow_pos (low f))
      (cross m (up p) (down p) (A f a b) (2 ^ low f) (down q) v)
      (rw (mul_comm (down p) (down q)) (cross o (up q) (down q) (B f a b) (2 ^ low f) (down p) x)))

  pub less_is : lt (of_bits f a) (of_bits f b) ≡ float_less (width_of f) a b
  less_is = less_reads (reads f a) (reads f b)

  equal_reads : {x y : Float} → Reads f (negative (width_of f) a) (magnitude (width_of f) a) x → Reads f (negative (width_of f) b) (magnitude (width_of f) b) y
      → eq x y ≡ float_equal (width_of f) a b
  unfolding eq float_equal
  equal_reads (reads_nan n) r = rw n
  equal_reads (reads_infinity n i) (reads_nan k) = rw (n, k)
  equal_reads (reads_infinity n i) (reads_infinity k j) =
      rw (n, k) (same_sign_only (negative (width_of f) a) (negative (width_of f) b) (A f a b) (B f a b) (top_is (magnitude (width_of f) a) i ∙ sym (top_is (magnitude (width_of f) b) j)) (top_pos (magnitude (width_of f) a) i))
  equal_reads (reads_infinity n i) (reads_finite {t = t} {n = o} {e = q} k j g x) =
      let h : B f a b < A f a b = above (magnitude (width_of f) a) (magnitude (width_of f) b) i k j in
      rw (n, k) (not_level (negative (width_of f) a) (negative (width_of f) b) (A f a b) (B f a b) (λ z. omega arith))
  equal_reads (reads_finite n i e v) (reads_nan k) = rw (n, k)
  equal_reads (reads_finite {t = s} {n = m} {e = p} n i e v) (reads_infinity k j) =
      let h : A f a b < B f a b = above (magnitude (width_of f) b) (magnitude (width_of f) a) j n i in
      rw (n, k) (not_level (negative (width_of f) a) (negative (width_of f) b) (A f a b) (B f a b) (λ z. omega arith))
  equal_reads (reads_finite {t = s} {n = m} {e = p} n i e v) (reads_finite {t = t} {n = o} {e = q} k j g x) =
      let C : 0 < down p * down q = mul-pos (down_pos p) (down_pos q) in
      let P : m * up p * down q * 2 ^ low f ≡ A f a b * (down p * down q) = cross m (up p) (down p) (A f a b) (2 ^ low f) (down q) v in
      let Q : o * up q * down p * 2 ^ low f ≡ B f a b * (down p * down q) = rw (mul_comm (down p) (down q)) (cross o (up q) (down q) (B f a b) (2 ^ low f) (down p) x) in
      rw (
        n,
        k,
        ← e,
        ← g,
        eqb_same (m * up p * down q) (o * up q * down p) (A f a b) (B f a b) (down p * down q) (2 ^ low f) C (pow_pos (low f)) P Q,
        eqb_same (m * up p * down q) 0 (A f a b) 0 (down p * down q) (2 ^ low f) C (pow_pos (low f)) P (zero-mul (2 ^ low f) ∙ sym (zero-mul (down p * down q))),
      )

  pub equal_is : eq (of_bits f a) (of_bits f b) ≡ float_equal (width_of f) a b
  equal_is = equal_reads (reads f a) (reads f b)
