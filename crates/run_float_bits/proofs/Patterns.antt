-- What the language (lib.Ieee) reads from a pattern, by the pattern's sign and magnitude; and equal fractions round alike.
use Prim.Native.Nat.{ℕ, zero, suc, ◌+◌, ◌-◌, ◌*◌, ◌/◌, ◌%◌, ◌^◌, ◌≤◌, ◌<◌, min}
use native.Mathlib.Nat.{le_of_eq, lt_of_lt_of_le, le_of_suc-le-suc, zero-lt-suc, zero-add, add-zero, zero-mul, mul-one, mul_comm, mul_assoc, mul-pos, le-mul_of_pos_right, mod-lt, mod-mod_of_dvd, dvd-mul_right, div-add-mod', div-lt_iff_lt-mul}
use native.Mathlib.Omega.{arith}
use mathlib.Core.Path.{◌≡◌, refl, sym, ap, ◌∙◌}
use mathlib.Core.Bool.{Bool, true, false, cond}
use lib.IntN.{ℤ}
use lib.Dec.{leb, ltb, eqb}
use lib.Pow.{pow_pos}
use lib.Arith.{lt_of_le-ne, digits_lt}
use lib.Ieee.{Float, nan, inf, fin, Format, prec, low, up, down, hid, ones, top, size, odd, of_fields, of_bits}
use lib.Ieee.Exact.{HasValue, odd_sign}
use lib.Ieee.Nearest.{div_same, closest_same}
use lib.Ieee.Nearest as Near
use borrow.Author.Tests.{lt-ltb, le-ltb, eq-eqb, ne_eqb, eqb-true, eqb-false}
use Rattle.scope.specs.Rounding.{Width, lead, infinite, units, rounded}
use Rattle.scope.specs.Floats.{negative, magnitude}
use Rattle.scope.proofs.Units.{units-low, units_field}
use Rattle.run_float_bits.specs.Formats.{width_of}
use Rattle.run_float_bits.proofs.Written.{same_lead, same_sign, same_infinite}

le-mul_of_pos_left : (a b : ℕ) → 0 < b → a ≤ b * a
le-mul_of_pos_left a b h = rw (mul_comm b a) (le-mul_of_pos_right a h)

-- equal fractions
pub rounded_same : (w : Width) (a b c d : ℕ) → 0 < b → 0 < d → a * d ≡ c * b → rounded w a b ≡ rounded w c d
unfolding rounded
rounded_same w a b c d B D e =
    let k = size (c / d) - suc w.digits in
    let y : a * (d * 2 ^ k) ≡ c * (b * 2 ^ k) = sym (mul_assoc a d (2 ^ k)) ∙ ap (λ (z : ℕ). z * 2 ^ k) e ∙ mul_assoc c b (2 ^ k) in
    ap (λ (z : ℕ). min ((size z - suc w.digits) * lead w + Near.closest a (b * 2 ^ (size z - suc w.digits))) (infinite w)) (div_same a b c d B D e)
    ∙ ap (λ (z : ℕ). min (k * lead w + z) (infinite w)) (closest_same a (b * 2 ^ k) c (d * 2 ^ k) (mul-pos B (pow_pos k)) (mul-pos D (pow_pos k)) y)

-- a sign and a magnitude, read
pub data Reads (f : Format) (s : Bool) (m : ℕ) : Float → Type 0 where
  reads_nan : ltb (infinite (width_of f)) m ≡ true → Reads f s m nan
  reads_infinity : ltb (infinite (width_of f)) m ≡ false → eqb m (infinite (width_of f)) ≡ true → Reads f s m (inf s)
  reads_finite : {t : Bool} {n : ℕ} {e : ℤ} → ltb (infinite (width_of f)) m ≡ false → eqb m (infinite (width_of f)) ≡ false
      → t ≡ s → n * up e * 2 ^ low f ≡ units (width_of f) m * down e → Reads f s m (fin t n e)

module _ (f : Format) (s : Bool) (m : ℕ) where
  finite : (x : Float) (a : ℕ) → m < infinite (width_of f) → units (width_of f) m ≡ a → HasValue x s a (2 ^ low f) → Reads f s m x
  finite nan a h e v = absurd v
  finite (inf t) a h e v = absurd v
  finite (fin t n g) a h e v =
      let is : n * up g * 2 ^ low f ≡ units (width_of f) m * down g = rw e v.1 in
      reads_finite (le-ltb (infinite (width_of f)) m (omega arith)) (ne_eqb m (infinite (width_of f)) (λ z. omega arith)) v.0 is

  -- by the exponent's field x and the digits t
  module _ (t : ℕ) (h : t < hid f) where
    low_field : m ≡ t → Reads f s m (odd (prec f) s t 0 (low f))
    low_field e =
        let under : m < infinite (width_of f) = rw (same_infinite f, e) (lt_of_lt_of_le h (le-mul_of_pos_left (hid f) (ones f) (omega arith))) in
        finite (odd (prec f) s t 0 (low f)) (t * 2 ^ 0) under (rw e (units-low (width_of f) t (rw (same_lead f) h) ∙ sym (mul-one t))) (odd_sign (prec f) s t 0 (low f))

    mid_field : (x : ℕ) → m ≡ suc x * hid f + t → suc x < ones f → Reads f s m (odd (prec f) s (hid f + t) x (low f))
    mid_field x e l =
        let under : m < infinite (width_of f) = rw (same_infinite f, e) (digits_lt l h) in
        finite (odd (prec f) s (hid f + t) x (low f)) ((hid f + t) * 2 ^ x) under (rw (e, ← same_lead f) (units_field (width_of f) x t (rw (same_lead f) h))) (odd_sign (prec f) s (hid f + t) x (low f))

    top_field : m ≡ ones f * hid f + t → Reads f s m (cond (eqb t 0) (inf s) nan)
    top_field e = go (eqb t 0) (eqb-true t 0) (eqb-false t 0)
      where
        go : (b : Bool) → (b ≡ true → t ≡ 0) → (b ≡ false → t ≡ 0 → ⊥) → Reads f s m (cond b (inf s) nan)
        go true z n =
            let is : m ≡ infinite (width_of f) = e ∙ ap (λ (y : ℕ). ones f * hid f + y) (z refl) ∙ add-zero (ones f * hid f) ∙ sym (same_infinite f) in
            reads_infinity (le-ltb (infinite (width_of f)) m (le_of_eq is)) (eq-eqb m (infinite (width_of f)) is)
        go false z n = reads_nan (lt-ltb (infinite (width_of f)) m (rw (same_infinite f, e) (more (ones f * hid f) t (n refl))))
          where
            more : (a b : ℕ) → (b ≡ 0 → ⊥) → a < a + b
            more a b z = omega arith

  fields : (x t : ℕ) → m ≡ x * hid f + t → t < hid f → x < suc (ones f) → Reads f s m (of_fields f s x t)
  unfolding of_fields
  fields zero t e h l = low_field t h (e ∙ ap (λ (y : ℕ). y + t) (zero-mul (hid f)) ∙ zero-add t)
  fields (suc x) t e h l = go (eqb (suc x) (ones f)) (eqb-true (suc x) (ones f)) (eqb-false (suc x) (ones f))
    where
      go : (b : Bool) → (b ≡ true → suc x ≡ ones f) → (b ≡ false → suc x ≡ ones f → ⊥) → Reads f s m (cond b (cond (eqb t 0) (inf s) nan) (odd (prec f) s (hid f + t) x (low f)))
      go true y n = top_field t h (e ∙ ap (λ (z : ℕ). z * hid f + t) (y refl))
      go false y n = mid_field t h x e (lt_of_le-ne (le_of_suc-le-suc l) (n refl))

-- what a pattern is read as
pub reads : (f : Format) (b : ℕ) → Reads f (negative (width_of f) b) (magnitude (width_of f) b) (of_bits f b)
unfolding of_bits
reads f b =
    rw (same_sign f)
    (fields f (leb (top f) b) (b % top f) (b % top f / hid f) (b % hid f)
    (sym (div-add-mod' (b % top f) (hid f)) ∙ ap (λ (y : ℕ). b % top f / hid f * hid f + y) (mod-mod_of_dvd (hid f) b (dvd-mul_right (hid f) (suc (ones f)))))
    (mod-lt b (pow_pos (prec f - 1)))
    ((div-lt_iff_lt-mul (pow_pos (prec f - 1))).1 (rw (mul_comm (suc (ones f)) (hid f)) (mod-lt b (mul-pos (pow_pos (prec f - 1)) (zero-lt-suc (ones f)))))))
