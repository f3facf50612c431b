-- The language's rounding (lib.Ieee), written as bits, is `rounded`.
use Prim.Native.Nat.{ℕ, suc, ◌+◌, ◌-◌, ◌*◌, ◌/◌, ◌^◌, ◌≤◌, ◌<◌, min}
use native.Mathlib.Nat.{le_refl, le_of_lt, lt_of_lt_of_le, lt_of_not-le, not-le_of_lt, le_of_suc-le-suc, le_antisymm, lt_irrefl, zero-lt-suc, zero-add, add_assoc, suc-add, suc-mul, zero-mul, mul-one, mul_assoc, mul-le-mul_right, pow-succ', two-pow-succ, div-one, mul-div_cancel, min-eq_left, min-eq_right}
use native.Mathlib.Omega.{arith}
use mathlib.Core.Path.{◌≡◌, refl, sym, ap, ◌∙◌}
use mathlib.Core.Bool.{Bool, true, false, cond}
use mathlib.Core.Logic.{◌⊎◌, inl, inr}
use lib.IntN.{ℤ}
use lib.Dec.{ltb}
use lib.Pow.{pow_pos, pow-add, pow_mono, shl_lt}
use lib.Ieee.{Float, nan, inf, fin, Format, binary32, binary64, prec, emax, low, up, down, hid, ones, top, size, odd, units, round, to_bits}
use lib.Ieee.Digits.{size-lt, size-le}
use lib.Ieee.Fits.{down_pos, core, round_is}
use lib.Ieee.Exact.{HasValue, odd_sign}
use borrow.Author.Tests.{ltb-true, ltb-false}
use Rattle.scope.specs.Rounding as R
use Rattle.scope.specs.Rounding.{Width, lead, sign_bit, infinite, one, rounded}
use Rattle.scope.specs.Floats.{with_sign}
use Rattle.scope.proofs.Units.{lt-or-le, Form, units-at, units_lt}
use Rattle.scope.proofs.Rounds.{rounded_form, closest, dropped}
use Rattle.run_float_bits.specs.Formats.{width_of}

-- the two formats
pub same_lead : (f : Format) → lead (width_of f) ≡ hid f
same_lead binary32 = refl
same_lead binary64 = refl

pub same_sign : (f : Format) → sign_bit (width_of f) ≡ top f
same_sign binary32 = refl
same_sign binary64 = refl

pub same_infinite : (f : Format) → infinite (width_of f) ≡ ones f * hid f
same_infinite binary32 = refl
same_infinite binary64 = refl

pub same_one : (f : Format) → one (width_of f) ≡ 2 ^ low f
same_one binary32 = refl
same_one binary64 = refl

pub same_digits : (f : Format) → suc (width_of f).digits ≡ prec f
same_digits binary32 = refl
same_digits binary64 = refl

pub some_digit : (f : Format) → 0 < (width_of f).digits
some_digit binary32 = zero-lt-suc 22
some_digit binary64 = zero-lt-suc 51

overflow : (f : Format) → R.units (width_of f) (infinite (width_of f)) ≡ 2 ^ (low f + suc (emax f))
unfolding R.units
overflow binary32 = refl
overflow binary64 = refl

-- a finite value, written by how many units it is
unfoldable pub written : Width → ℕ → ℕ
written w a = (size a - suc w.digits) * lead w + a / 2 ^ (size a - suc w.digits)

module _ (f : Format) (t : Bool) (m : ℕ) (e : ℤ) where
  bits_of_fin : (a : ℕ) → m * up e * 2 ^ low f / down e ≡ a → to_bits f (fin t m e) ≡ with_sign (width_of f) t (written (width_of f) a)
  unfolding to_bits written
  bits_of_fin a h =
      rw (h, same_digits f, same_sign f, same_lead f) (add_assoc (cond t (top f) 0) ((size a - prec f) * hid f) (a / 2 ^ (size a - prec f)))

pub bits_of_value : (f : Format) (x : Float) (s : Bool) (a : ℕ) → HasValue x s a (2 ^ low f) → to_bits f x ≡ with_sign (width_of f) s (written (width_of f) a)
bits_of_value f nan s a v = absurd v
bits_of_value f (inf t) s a v = absurd v
bits_of_value f (fin t m e) s a v =
    bits_of_fin f t m e a (ap (λ (x : ℕ). x / down e) v.1 ∙ mul-div_cancel a (down_pos e))
    ∙ ap (λ (b : Bool). with_sign (width_of f) b (written (width_of f) a)) v.0

-- what k and q stand for is written so
module _ (w : Width) where
  pair : lead w + lead w ≡ 2 ^ suc w.digits
  pair = sym (two-pow-succ w.digits)

  size_exact : (a j : ℕ) → 2 ^ j ≤ a → a < 2 ^ suc j → size a ≡ suc j
  size_exact a j lo hi = le_antisymm (size-le a (suc j) hi) (lt_of_not-le (λ (g : size a ≤ j). lt_irrefl a (lt_of_lt_of_le (lt_of_lt_of_le (size-lt a) (pow_mono g)) lo)))

  few : (z p : ℕ) → z ≤ p → z - p ≡ 0
  few z p h = omega arith

  left : (g k : ℕ) → suc (g + k) - suc g ≡ k
  left g k = omega arith

  low-written : (q : ℕ) → q < lead w + lead w → written w (q * 2 ^ 0) ≡ q
  unfolding written
  low-written q h =
      rw (mul-one q, few (size q) (suc w.digits) (size-le q (suc w.digits) (rw pair at h)), zero-mul, zero-add) (div-one q)

  mid_written : (k q : ℕ) → lead w ≤ q → q < lead w + lead w → written w (q * 2 ^ k) ≡ k * lead w + q
  unfolding written
  mid_written k q h g =
      let lo : 2 ^ (w.digits + k) ≤ q * 2 ^ k = rw (pow-add 2 w.digits k) (mul-le-mul_right (2 ^ k) h) in
      let hi : q * 2 ^ k < 2 ^ suc (w.digits + k) = rw suc-add at (shl_lt (suc w.digits) k (rw pair at g)) in
      rw (size_exact (q * 2 ^ k) (w.digits + k) lo hi, left w.digits k, mul-div_cancel q (pow_pos k))

  pub written_form : (k q : ℕ) → Form w k q → written w (q * 2 ^ k) ≡ k * lead w + q
  written_form k q f = elim (lt-or-le q (lead w)) [
    | inl h ↦ at_low h f.leads
    | inr h ↦ elim (lt-or-le q (lead w + lead w)) [ inl g ↦ mid_written k q h g | inr g ↦ at_top (omega arith) ]
  ]
    where
      at_low : q < lead w → (k ≡ 0) ⊎ (lead w ≤ q) → written w (q * 2 ^ k) ≡ k * lead w + q
      at_low h (inl z) = rw (z, zero-mul, zero-add) (low-written q (omega arith))
      at_low h (inr g) = absurd (omega arith)

      at_top : q ≡ lead w + lead w → written w (q * 2 ^ k) ≡ k * lead w + q
      at_top e = ap (written w) doubled ∙ mid_written (suc k) (lead w) (le_refl (lead w)) (above (lead w) (pow_pos w.digits)) ∙ regroup
        where
          above : (l : ℕ) → 0 < l → l < l + l
          above l h = omega arith

          double : (l : ℕ) → l + l ≡ l * 2
          double l = omega arith

          doubled : q * 2 ^ k ≡ lead w * 2 ^ suc k
          doubled = rw (e, double (lead w), pow-succ' 2 k) (mul_assoc (lead w) 2 (2 ^ k))

          regroup : suc k * lead w + lead w ≡ k * lead w + q
          regroup = rw (e, suc-mul k (lead w)) (add_assoc (k * lead w) (lead w) (lead w))

-- the language's rounding
pub bits_of_inf : (f : Format) (s : Bool) → to_bits f (inf s) ≡ with_sign (width_of f) s (infinite (width_of f))
unfolding to_bits
bits_of_inf f s = rw (same_infinite f, same_sign f)

pub not-above : {a b : ℕ} → (b < a → ⊥) → a ≤ b
not-above h = le_of_suc-le-suc (lt_of_not-le h)

bits_of_units : (f : Format) (s : Bool) (q k : ℕ) → Form (width_of f) k q → to_bits f (units f s q k) ≡ with_sign (width_of f) s (min (k * lead (width_of f) + q) (infinite (width_of f)))
unfolding units
bits_of_units f s q k form = go (ltb (q * 2 ^ k) (2 ^ (low f + suc (emax f)))) (ltb-true (q * 2 ^ k) (2 ^ (low f + suc (emax f)))) (ltb-false (q * 2 ^ k) (2 ^ (low f + suc (emax f))))
  where
    is : R.units (width_of f) (k * lead (width_of f) + q) ≡ q * 2 ^ k
    is = units-at (width_of f) k q form

    go : (b : Bool) → (b ≡ true → q * 2 ^ k < 2 ^ (low f + suc (emax f))) → (b ≡ false → 2 ^ (low f + suc (emax f)) ≤ q * 2 ^ k)
        → to_bits f (cond b (odd (suc (prec f)) s q k (low f)) (inf s)) ≡ with_sign (width_of f) s (min (k * lead (width_of f) + q) (infinite (width_of f)))
    go true h g =
        let under : k * lead (width_of f) + q ≤ infinite (width_of f) = not-above (λ l. not-le_of_lt (h refl) (le_of_lt (rw (overflow f, is) at (units_lt (width_of f) l)))) in
        bits_of_value f (odd (suc (prec f)) s q k (low f)) s (q * 2 ^ k) (odd_sign (suc (prec f)) s q k (low f))
        ∙ ap (with_sign (width_of f) s) (written_form (width_of f) k q form ∙ sym (min-eq_left under))
    go false h g =
        let past : infinite (width_of f) ≤ k * lead (width_of f) + q = not-above (λ l. not-le_of_lt (rw (is, overflow f) at (units_lt (width_of f) l)) (g refl)) in
        bits_of_inf f s ∙ ap (with_sign (width_of f) s) (sym (min-eq_right past))

pub bits_of_round : (f : Format) (s : Bool) (n d : ℕ) → 0 < d → to_bits f (round f s n d) ≡ with_sign (width_of f) s (rounded (width_of f) (n * one (width_of f)) d)
unfolding rounded
bits_of_round f s n d D =
    let w = width_of f in
    let N = n * 2 ^ low f in
    ap (to_bits f) (round_is f s n d)
    ∙ ap (λ (p : ℕ). to_bits f (core f s N d (size (N / d) - p))) (sym (same_digits f))
    ∙ bits_of_units f s (closest w N d D (some_digit f)) (dropped w N d D (some_digit f)) (rounded_form w N d D (some_digit f))
    ∙ ap (λ (x : ℕ). with_sign w s (rounded w (n * x) d)) (sym (same_one f))
