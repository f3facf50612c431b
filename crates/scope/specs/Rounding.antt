-- The one rounding of change request 1, over whole numbers and over the width: "Each float result is rounded once, to
-- nearest, ties to even, infinities and signs of zero as in the core standard, stated over whole numbers (a quotient by
-- cross products)". `Nearest` says what a rounded result is; `rounded` computes it. proofs/Rounds.antt has the laws: what
-- `rounded` computes is nearest, and only one number is.
use Prim.Native.Nat.{ℕ, suc, ◌+◌, ◌-◌, ◌*◌, ◌/◌, ◌%◌, ◌^◌, ◌≤◌, min, compare}
use Rattle.std.specs.Prelude.{◌≡◌, cond, eqb}
use Rattle.std.specs.Float.Ieee.{size, nearest}

-- a float's width: so many bits of exponent, and so many digits below the leading one; the sign is one bit more
pub record Width : Type 0 where
  pub exponent : ℕ
  pub digits : ℕ

-- f32
abbrev pub single : Width
single = record { exponent = 8; digits = 23 }

-- f64
abbrev pub double : Width
double = record { exponent = 11; digits = 52 }

-- what the lowest bit of the exponent's field weighs in a pattern, and what the sign weighs
abbrev pub lead : Width → ℕ
lead w = 2 ^ w.digits

abbrev pub sign_bit : Width → ℕ
sign_bit w = 2 ^ w.exponent * lead w

-- A magnitude is a pattern without its sign. That of an infinity has an exponent's field of ones and digits of zero; those
-- of numbers are less, those of NaNs greater.
abbrev pub infinite : Width → ℕ
infinite w = (2 ^ w.exponent - 1) * lead w

-- How many units a magnitude counts, a unit being the width's least positive value. A field of 0 has no leading digit (the
-- subnormals) and weighs as a field of 1. The magnitude of an infinity counts as if its field were one more: as the power of
-- two after the greatest finite value.
unfoldable pub units : Width → ℕ → ℕ
units w m = cond (eqb (m / lead w) 0) m ((lead w + m % lead w) * 2 ^ (m / lead w - 1))

-- so many units are the number 1
abbrev pub one : Width → ℕ
one w = 2 ^ (2 ^ (w.exponent - 1) + w.digits - 2)

-- how far apart two numbers are
abbrev pub gap : ℕ → ℕ → ℕ
gap a b = (a - b) + (b - a)

-- "to nearest, ties to even": r is the magnitude nearest to n / d units. Both sides of a comparison are multiplied by d, so
-- that a quotient is met by cross products and no fraction is needed. No other magnitude is nearer, and where another is as
-- near r is the even one: a magnitude is even where its last digit is.
-- Subnormals are magnitudes like all others, one unit apart; nothing below the least normal value is treated apart, and
-- r may be 0. Overflow: the infinite magnitude is among those that are compared, and counts as the power of two after the
-- greatest finite value. So r is infinite from half a step past the greatest finite value on, the half itself included,
-- since the greatest finite magnitude is odd; and beyond that power too, where nothing else is as near.
pub record Nearest (w : Width) (n d r : ℕ) : Type 0 where
  pub within : r ≤ infinite w
  pub closest : (m : ℕ) → m ≤ infinite w → gap n (units w r * d) ≤ gap n (units w m * d)
  pub even : (m : ℕ) → m ≤ infinite w → (m ≡ r → ⊥) → gap n (units w r * d) ≡ gap n (units w m * d) → r % 2 ≡ 0

-- That magnitude, computed. Of the whole part's binary digits k are too many; the quotient by 2 ^ k units is rounded, up or
-- down by what is left of it, a tie to even. Its leading digit adds one to the field k, and a carry one more; what comes out
-- past the infinite magnitude is that one.
unfoldable pub rounded : Width → ℕ → ℕ → ℕ
rounded w n d =
    let k = size (n / d) - suc w.digits in
    let u = d * 2 ^ k in
    min (k * lead w + nearest (n / u) (compare (n % u * 2) u)) (infinite w)
