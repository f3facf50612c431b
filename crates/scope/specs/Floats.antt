-- The float operations of change request 1 on patterns of bits, over the width: "comparisons, neg, add, sub, mul and div of
-- floats", "infinities and signs of zero as in the core standard". Definitions that compute; facts_floats holds them against
-- the core standard's lines, case by case.
use Rattle.std.specs.Prelude.{ℕ, ◌+◌, ◌-◌, ◌*◌, ◌/◌, ◌%◌, ◌≡◌, Bool, true, false, cond, ◌&&◌, ◌||◌, not, eqb, ltb, leb}
use Rattle.std.specs.Bool.{beq}
use Rattle.scope.specs.Rounding.{Width, lead, sign_bit, infinite, units, one, Nearest, rounded}

-- the parts of a pattern: its sign, and what is left of it

abbrev pub negative : Width → ℕ → Bool
negative w b = leb (sign_bit w) b

abbrev pub magnitude : Width → ℕ → ℕ
magnitude w b = b % sign_bit w

-- the pattern of a sign and a magnitude
abbrev pub with_sign : Width → Bool → ℕ → ℕ
with_sign w s m = cond s (sign_bit w) 0 + m

-- how many units, without the sign
abbrev pub units_of : Width → ℕ → ℕ
units_of w b = units w (magnitude w b)

abbrev pub is_nan : Width → ℕ → Bool
is_nan w b = ltb (infinite w) (magnitude w b)

abbrev pub is_infinite : Width → ℕ → Bool
is_infinite w b = eqb (magnitude w b) (infinite w)

abbrev pub is_zero : Width → ℕ → Bool
is_zero w b = eqb (magnitude w b) 0

abbrev pub either_nan : Width → ℕ → ℕ → Bool
either_nan w a b = is_nan w a || is_nan w b

-- "the positive canonical pattern": of the digits only the highest is one
abbrev pub canonical_nan : Width → ℕ
canonical_nan w = infinite w + lead w / 2

abbrev pub unlike : Bool → Bool → Bool
unlike s t = not (beq s t)

-- a number: no NaN and no infinity
pub record Finite (w : Width) (b : ℕ) : Type 0 where
  pub number : is_nan w b ≡ false
  pub finite : is_infinite w b ≡ false

-- "Each float result is rounded once": the pattern r has the sign s, and its magnitude is the nearest to n / d units
pub record RoundedOnce (w : Width) (s : Bool) (n d r : ℕ) : Type 0 where
  pub to : ℕ
  pub is : r ≡ with_sign w s to
  pub near : Nearest w n d to

-- "neg only turns the sign bit."
unfoldable pub float_neg : Width → ℕ → ℕ
float_neg w b = with_sign w (not (negative w b)) (magnitude w b)

-- ±m ± n units, rounded once. A sum that is exactly zero is -0 where both are negative, and +0 otherwise.
abbrev pub sum_of : Width → Bool → ℕ → Bool → ℕ → ℕ
sum_of w s m t n =
    cond (beq s t) (with_sign w s (rounded w (m + n) 1))
    (cond (ltb m n) (with_sign w t (rounded w (n - m) 1)) (with_sign w (s && ltb n m) (rounded w (m - n) 1)))

-- "a NaN from add, sub, mul or div is written as the positive canonical pattern": from a NaN, and from infinities of
-- unlike signs. Another infinity stays.
unfoldable pub float_add : Width → ℕ → ℕ → ℕ
float_add w a b =
    cond (either_nan w a b) (canonical_nan w)
    (cond (is_infinite w a) (cond (is_infinite w b && unlike (negative w a) (negative w b)) (canonical_nan w) (with_sign w (negative w a) (infinite w)))
    (cond (is_infinite w b) (with_sign w (negative w b) (infinite w))
    (sum_of w (negative w a) (units_of w a) (negative w b) (units_of w b))))

unfoldable pub float_sub : Width → ℕ → ℕ → ℕ
float_sub w a b = float_add w a (float_neg w b)

-- An infinity times a zero is a NaN. A units times B units are A * B / one units: `one` of them are the number 1.
unfoldable pub float_mul : Width → ℕ → ℕ → ℕ
float_mul w a b =
    let s = unlike (negative w a) (negative w b) in
    cond (either_nan w a b) (canonical_nan w)
    (cond (is_infinite w a || is_infinite w b)
    (cond (is_zero w a || is_zero w b) (canonical_nan w) (with_sign w s (infinite w)))
    (with_sign w s (rounded w (units_of w a * units_of w b) (one w))))

-- An infinity by an infinity and a zero by a zero are NaNs; any other number by zero is an infinity. A units by B units are
-- A * one / B units.
unfoldable pub float_div : Width → ℕ → ℕ → ℕ
float_div w a b =
    let s = unlike (negative w a) (negative w b) in
    cond (either_nan w a b) (canonical_nan w)
    (cond (is_infinite w a) (cond (is_infinite w b) (canonical_nan w) (with_sign w s (infinite w)))
    (cond (is_infinite w b) (with_sign w s 0)
    (cond (is_zero w b) (cond (is_zero w a) (canonical_nan w) (with_sign w s (infinite w)))
    (with_sign w s (rounded w (units_of w a * one w) (units_of w b))))))

-- comparisons. Zeros are equal whatever their signs, a NaN compares with nothing, and an infinite magnitude counts above
-- every finite one.

-- ±m is less than ±n
abbrev pub less_signed : Bool → ℕ → Bool → ℕ → Bool
less_signed false m false n = ltb m n
less_signed false m true n = false
less_signed true m false n = ltb 0 (m + n)
less_signed true m true n = ltb n m

-- ±m is ±n
abbrev pub same_signed : Bool → ℕ → Bool → ℕ → Bool
same_signed s m t n = eqb m n && (beq s t || eqb m 0)

-- eq
unfoldable pub float_equal : Width → ℕ → ℕ → Bool
float_equal w a b = not (either_nan w a b) && same_signed (negative w a) (units_of w a) (negative w b) (units_of w b)

-- lt
unfoldable pub float_less : Width → ℕ → ℕ → Bool
float_less w a b = not (either_nan w a b) && less_signed (negative w a) (units_of w a) (negative w b) (units_of w b)

-- ne
abbrev pub float_unequal : Width → ℕ → ℕ → Bool
float_unequal w a b = not (float_equal w a b)

-- gt
abbrev pub float_greater : Width → ℕ → ℕ → Bool
float_greater w a b = float_less w b a

-- le
abbrev pub float_at_most : Width → ℕ → ℕ → Bool
float_at_most w a b = float_less w a b || float_equal w a b

-- ge
abbrev pub float_at_least : Width → ℕ → ℕ → Bool
float_at_least w a b = float_less w b a || float_equal w a b
