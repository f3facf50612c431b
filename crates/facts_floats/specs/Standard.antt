-- The core standard's fadd, fsub, fmul, fdiv and fneg, a constructor for each of its lines, over patterns written out by
-- sign and magnitude. Where the standard leaves a NaN open, change request 1 says: "a NaN from add, sub, mul or div is written
-- as the positive canonical pattern". No line uses a test of scope's definitions; what they share (the weight of the sign, the
-- magnitude of an infinity, units, the canonical pattern) is pinned by the vectors.
use Rattle.std.specs.Prelude.{ℕ, ◌+◌, ◌*◌, ◌<◌, ◌≡◌, Bool, true, false, not}
use Rattle.scope.specs.Rounding.{Width, lead, sign_bit, infinite, units, one}
use Rattle.scope.specs.Floats.{with_sign, canonical_nan, RoundedOnce}

-- what both widths have, and all that the laws ask of a width
pub record Proper (w : Width) : Type 0 where
  pub some_exponent : 0 < w.exponent
  pub some_digit : 0 < w.digits

-- the patterns: zeros, infinities, and NaNs, whose digits (the payload, "quiet" bit included) are not all zero
abbrev pub zero_of : Width → Bool → ℕ
zero_of w s = with_sign w s 0

abbrev pub infinity : Width → Bool → ℕ
infinity w s = with_sign w s (infinite w)

abbrev pub nan_of : Width → Bool → ℕ → ℕ
nan_of w s p = with_sign w s (infinite w + p)

pub record Payload (w : Width) (p : ℕ) : Type 0 where
  pub some : 0 < p
  pub fits : p < lead w

-- a number other than zero, by its magnitude
pub record Nonzero (w : Width) (m : ℕ) : Type 0 where
  pub some : 0 < m
  pub finite : m < infinite w

-- every pattern is one of three
pub data Form (w : Width) : ℕ → Type 0 where
  is_nan_lem : (s : Bool) {p : ℕ} → Payload w p → Form w (nan_of w s p)
  is_infinity : (s : Bool) → Form w (infinity w s)
  is_number : (s : Bool) (m : ℕ) → m < infinite w → Form w (with_sign w s m)

-- the sign of a product or quotient: plus where the signs are equal, minus where they are opposite
abbrev pub sign_of : Bool → Bool → Bool
sign_of true true = false
sign_of true false = true
sign_of false true = true
sign_of false false = false

-- fneg: every pattern, a NaN's too, with the other sign and nothing else changed
pub data Negation (w : Width) : ℕ → ℕ → Type 0 where
  turned : (s : Bool) (m : ℕ) → m < sign_bit w → Negation w (with_sign w s m) (with_sign w (not s) m)

-- fadd
pub data Sum (w : Width) : ℕ → ℕ → ℕ → Type 0 where
  first_nan : (s : Bool) {p b : ℕ} → Payload w p → Sum w (nan_of w s p) b (canonical_nan w)
  second_nan : (s : Bool) {a p : ℕ} → Payload w p → Sum w a (nan_of w s p) (canonical_nan w)
  opposite_infinities : (s : Bool) → Sum w (infinity w s) (infinity w (not s)) (canonical_nan w)
  equal_infinities : (s : Bool) → Sum w (infinity w s) (infinity w s) (infinity w s)
  first_infinite : (s t : Bool) (n : ℕ) → n < infinite w → Sum w (infinity w s) (with_sign w t n) (infinity w s)
  second_infinite : (s t : Bool) (m : ℕ) → m < infinite w → Sum w (with_sign w s m) (infinity w t) (infinity w t)
  opposite_zeros : (s : Bool) → Sum w (zero_of w s) (zero_of w (not s)) (zero_of w false)
  equal_zeros : (s : Bool) → Sum w (zero_of w s) (zero_of w s) (zero_of w s)
  first_zero : (s t : Bool) {n : ℕ} → Nonzero w n → Sum w (zero_of w s) (with_sign w t n) (with_sign w t n)
  second_zero : (s t : Bool) {m : ℕ} → Nonzero w m → Sum w (with_sign w s m) (zero_of w t) (with_sign w s m)
  cancels : (s : Bool) {m : ℕ} → Nonzero w m → Sum w (with_sign w s m) (with_sign w (not s) m) (zero_of w false)
  -- the exact sum, rounded: of equal signs, and of opposite ones the first or the second the greater by k units
  alike : (s : Bool) {m n r : ℕ} → Nonzero w m → Nonzero w n
      → RoundedOnce w s (units w m + units w n) 1 r → Sum w (with_sign w s m) (with_sign w s n) r
  first_greater : (s : Bool) {m n k r : ℕ} → Nonzero w m → Nonzero w n → 0 < k → units w m ≡ units w n + k
      → RoundedOnce w s k 1 r → Sum w (with_sign w s m) (with_sign w (not s) n) r
  second_greater : (s : Bool) {m n k r : ℕ} → Nonzero w m → Nonzero w n → 0 < k → units w n ≡ units w m + k
      → RoundedOnce w (not s) k 1 r → Sum w (with_sign w s m) (with_sign w (not s) n) r

-- fsub: "Up to the non-determinism regarding NaNs", which the request ends, the sum with the second operand negated
pub data Difference (w : Width) : ℕ → ℕ → ℕ → Type 0 where
  less_by : {a b c r : ℕ} → Negation w b c → Sum w a c r → Difference w a b r

-- fmul
pub data Product (w : Width) : ℕ → ℕ → ℕ → Type 0 where
  first_nan : (s : Bool) {p b : ℕ} → Payload w p → Product w (nan_of w s p) b (canonical_nan w)
  second_nan : (s : Bool) {a p : ℕ} → Payload w p → Product w a (nan_of w s p) (canonical_nan w)
  zero_by_infinity : (s t : Bool) → Product w (zero_of w s) (infinity w t) (canonical_nan w)
  infinity_by_zero : (s t : Bool) → Product w (infinity w s) (zero_of w t) (canonical_nan w)
  infinities : (s t : Bool) → Product w (infinity w s) (infinity w t) (infinity w (sign_of s t))
  first_infinite : (s t : Bool) {n : ℕ} → Nonzero w n → Product w (infinity w s) (with_sign w t n) (infinity w (sign_of s t))
  second_infinite : (s t : Bool) {m : ℕ} → Nonzero w m → Product w (with_sign w s m) (infinity w t) (infinity w (sign_of s t))
  first_zero : (s t : Bool) (n : ℕ) → n < infinite w → Product w (zero_of w s) (with_sign w t n) (zero_of w (sign_of s t))
  second_zero : (s t : Bool) (m : ℕ) → m < infinite w → Product w (with_sign w s m) (zero_of w t) (zero_of w (sign_of s t))
  numbers : (s t : Bool) {m n r : ℕ} → Nonzero w m → Nonzero w n
      → RoundedOnce w (sign_of s t) (units w m * units w n) (one w) r → Product w (with_sign w s m) (with_sign w t n) r

-- fdiv
pub data Quotient (w : Width) : ℕ → ℕ → ℕ → Type 0 where
  first_nan : (s : Bool) {p b : ℕ} → Payload w p → Quotient w (nan_of w s p) b (canonical_nan w)
  second_nan : (s : Bool) {a p : ℕ} → Payload w p → Quotient w a (nan_of w s p) (canonical_nan w)
  infinities : (s t : Bool) → Quotient w (infinity w s) (infinity w t) (canonical_nan w)
  zeros : (s t : Bool) → Quotient w (zero_of w s) (zero_of w t) (canonical_nan w)
  first_infinite : (s t : Bool) (n : ℕ) → n < infinite w → Quotient w (infinity w s) (with_sign w t n) (infinity w (sign_of s t))
  by_infinity : (s t : Bool) (m : ℕ) → m < infinite w → Quotient w (with_sign w s m) (infinity w t) (zero_of w (sign_of s t))
  first_zero : (s t : Bool) {n : ℕ} → Nonzero w n → Quotient w (zero_of w s) (with_sign w t n) (zero_of w (sign_of s t))
  by_zero : (s t : Bool) {m : ℕ} → Nonzero w m → Quotient w (with_sign w s m) (zero_of w t) (infinity w (sign_of s t))
  numbers : (s t : Bool) {m n r : ℕ} → Nonzero w m → Nonzero w n
      → RoundedOnce w (sign_of s t) (units w m * one w) (units w n) r → Quotient w (with_sign w s m) (with_sign w t n) r
