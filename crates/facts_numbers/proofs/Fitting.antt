-- Every result fits. A test gives 0 or 1; integers are taken modulo 2 ^ n; a float is a sign and a magnitude that is at most the
-- infinite one, the canonical NaN's, or what is left of a pattern without its sign. One line for each line of
-- scope/specs/Arithmetic.antt.
use Prim.Native.Nat.{ℕ, ◌+◌, ◌*◌, ◌^◌, ◌<◌, ◌≤◌, min}
use native.Mathlib.Omega.{arith}
use native.Mathlib.Nat.{le_of_lt, le_refl, min-eq_left, min-eq_right}
use mathlib.Core.Path.{◌≡◌, refl, ap, subst}
use mathlib.Core.Bool.{Bool, true, false, cond, ◌&&◌, ◌||◌, not, beq}
use mathlib.Core.Option.{Option, some}
use mathlib.Core.List.{List, [], ◌∷◌}
use lib.Dec.{eqb, ltb, leb}
use borrow.Author.Tests.{eqb-true, leb-true, leb-false}
use Rattle.scope.specs.Reading.{given}
use Rattle.scope.specs.Rounding.{Width, single, double, sign_bit, infinite, one, rounded}
use Rattle.scope.specs.Floats.{negative, magnitude, with_sign, units_of, is_infinite, is_zero, either_nan, canonical_nan, unlike, sum_of, float_neg, float_add, float_sub, float_mul, float_div, float_equal, float_unequal, float_less, float_greater, float_at_most, float_at_least}
use Rattle.scope.specs.Integers.{int_add, int_sub, int_is_zero, int_equal, int_unequal, int_less_signed, int_less_unsigned, int_greater_signed, int_greater_unsigned, int_at_most_signed, int_at_most_unsigned, int_at_least_signed, int_at_least_unsigned}
use Rattle.scope.specs.Numeric.{Numeric, numeric_of}
use Rattle.scope.specs.Instructions.{find}
use Rattle.scope.specs.Arithmetic.{as_bits, asks, compares, Deed, deeds, deed_of}
use Rattle.scope.proofs.Impossible.{impossible}
use Rattle.facts_codes.specs.Proper.{width_of}
use Rattle.facts_numbers.specs.Fitting.{Fits, fits_one, fits_two, ResultsFit}

-- tests and integers

bit_fits : (t : Bool) → as_bits t < 2 ^ 32
bit_fits true = omega arith
bit_fits false = omega arith

test_fits : (f : ℕ → Bool) → Fits 32 (asks f)
test_fits f = fits_one (λ a. bit_fits (f a))

compare_fits : (f : ℕ → ℕ → Bool) → Fits 32 (compares f)
compare_fits f = fits_two (λ a b. bit_fits (f a b))

add_32 : (a b : ℕ) → int_add 32 a b < 2 ^ 32
unfolding int_add
add_32 a b = omega arith

sub_32 : (a b : ℕ) → int_sub 32 a b < 2 ^ 32
unfolding int_sub
sub_32 a b = omega arith

add_64 : (a b : ℕ) → int_add 64 a b < 2 ^ 64
unfolding int_add
add_64 a b = omega arith

sub_64 : (a b : ℕ) → int_sub 64 a b < 2 ^ 64
unfolding int_sub
sub_64 a b = omega arith

-- floats, over the width: below two sign bits

with_sign_lem : (x m : ℕ) (s : Bool) → m < x → cond s x 0 + m < 2 * x
with_sign_lem x m true h = omega arith
with_sign_lem x m false h = omega arith

below_two : (x r : ℕ) → r < x → r < 2 * x
below_two x r h = omega arith

capped : (a b : ℕ) → min a b ≤ b
capped a b = go (leb a b) refl
  where
    go : (t : Bool) → leb a b ≡ t → min a b ≤ b
    go true e = let h = leb-true a b e in rw (min-eq_left h) h
    go false e = let h = leb-false a b e in rw (min-eq_right (le_of_lt h)) (le_refl b)

-- of a format: infinity, the canonical NaN and every magnitude lie below the sign
record UnderSign (w : Width) : Type 0 where
  top : infinite w < sign_bit w
  nan : canonical_nan w < sign_bit w
  left : (b : ℕ) → magnitude w b < sign_bit w

module _ (w : Width) (lies : UnderSign w) where
  either : (t : Bool) {a b : ℕ} → a < 2 * sign_bit w → b < 2 * sign_bit w → cond t a b < 2 * sign_bit w
  either true a b = a
  either false a b = b

  signed : (s : Bool) {m : ℕ} → m < sign_bit w → with_sign w s m < 2 * sign_bit w
  signed s {m} h = with_sign_lem (sign_bit w) m s h

  round : (n d : ℕ) → rounded w n d < sign_bit w
  unfolding rounded
  round n d = under _ (infinite w) (sign_bit w) (capped _ (infinite w)) lies.top
    where
      under : (a b c : ℕ) → a ≤ b → b < c → a < c
      under a b c h l = omega arith

  infinity : (s : Bool) → with_sign w s (infinite w) < 2 * sign_bit w
  infinity s = signed s lies.top

  canonical : canonical_nan w < 2 * sign_bit w
  canonical = below_two (sign_bit w) (canonical_nan w) lies.nan

  neg_fits : (b : ℕ) → float_neg w b < 2 * sign_bit w
  unfolding float_neg
  neg_fits b = signed (not (negative w b)) (lies.left b)

  sum_fits : (s : Bool) (m : ℕ) (t : Bool) (n : ℕ) → sum_of w s m t n < 2 * sign_bit w
  sum_fits s m t n =
      either (beq s t) (signed s (round _ 1)) (either (ltb m n) (signed t (round _ 1)) (signed (s && ltb n m) (round _ 1)))

  add-fits : (a b : ℕ) → float_add w a b < 2 * sign_bit w
  unfolding float_add
  add-fits a b =
      either (either_nan w a b) canonical
      (either (is_infinite w a) (either (is_infinite w b && unlike (negative w a) (negative w b)) canonical (infinity (negative w a)))
      (either (is_infinite w b) (infinity (negative w b)) (sum_fits (negative w a) (units_of w a) (negative w b) (units_of w b))))

  sub-fits : (a b : ℕ) → float_sub w a b < 2 * sign_bit w
  unfolding float_sub
  sub-fits a b = add-fits a (float_neg w b)

  mul-fits : (a b : ℕ) → float_mul w a b < 2 * sign_bit w
  unfolding float_mul
  mul-fits a b =
      let s = unlike (negative w a) (negative w b) in
      either (either_nan w a b) canonical
      (either (is_infinite w a || is_infinite w b) (either (is_zero w a || is_zero w b) canonical (infinity s)) (signed s (round _ (one w))))

  div-fits : (a b : ℕ) → float_div w a b < 2 * sign_bit w
  unfolding float_div
  div-fits a b =
      let s = unlike (negative w a) (negative w b) in
      either (either_nan w a b) canonical
      (either (is_infinite w a) (either (is_infinite w b) canonical (infinity s))
      (either (is_infinite w b) (signed s (none-left_over (sign_bit w) (infinite w) lies.top))
      (either (is_zero w b) (either (is_zero w a) canonical (infinity s)) (signed s (round _ (units_of w b))))))
    where
      none-left_over : (x y : ℕ) → y < x → 0 < x
      none-left_over x y h = omega arith

single_lies : UnderSign single
single_lies = record { top = omega arith; nan = omega arith; left = λ b. omega arith }

double_lies : UnderSign double
double_lies = record { top = omega arith; nan = omega arith; left = λ b. omega arith }

neg_single : (a : ℕ) → float_neg single a < 2 ^ 32
neg_single = neg_fits single single_lies

add-single : (a b : ℕ) → float_add single a b < 2 ^ 32
add-single = add-fits single single_lies

sub-single : (a b : ℕ) → float_sub single a b < 2 ^ 32
sub-single = sub-fits single single_lies

mul-single : (a b : ℕ) → float_mul single a b < 2 ^ 32
mul-single = mul-fits single single_lies

div-single : (a b : ℕ) → float_div single a b < 2 ^ 32
div-single = div-fits single single_lies

neg_double : (a : ℕ) → float_neg double a < 2 ^ 64
neg_double = neg_fits double double_lies

add-double : (a b : ℕ) → float_add double a b < 2 ^ 64
add-double = add-fits double double_lies

sub-double : (a b : ℕ) → float_sub double a b < 2 ^ 64
sub-double = sub-fits double double_lies

mul-double : (a b : ℕ) → float_mul double a b < 2 ^ 64
mul-double = mul-fits double double_lies

div-double : (a b : ℕ) → float_div double a b < 2 ^ 64
div-double = div-fits double double_lies

-- line by line

abbrev width_at : ℕ → ℕ
width_at code = given (numeric_of code) 0 (λ kinds. width_of kinds.result)

data AllFit : List (ℕ × Deed) → Type 0 where
  none_left_lem : AllFit []
  line_fits : {deed : Deed} {more : List (ℕ × Deed)} (code n : ℕ) → width_at code ≡ n → Fits n deed → AllFit more → AllFit ((code, deed) ∷ more)

all_fit : AllFit deeds
unfolding numeric_of
all_fit =
    line_fits 0x45 32 refl (test_fits int_is_zero)
    (line_fits 0x46 32 refl (compare_fits int_equal)
    (line_fits 0x47 32 refl (compare_fits int_unequal)
    (line_fits 0x48 32 refl (compare_fits (int_less_signed 32))
    (line_fits 0x49 32 refl (compare_fits int_less_unsigned)
    (line_fits 0x4A 32 refl (compare_fits (int_greater_signed 32))
    (line_fits 0x4B 32 refl (compare_fits int_greater_unsigned)
    (line_fits 0x4C 32 refl (compare_fits (int_at_most_signed 32))
    (line_fits 0x4D 32 refl (compare_fits int_at_most_unsigned)
    (line_fits 0x4E 32 refl (compare_fits (int_at_least_signed 32))
    (line_fits 0x4F 32 refl (compare_fits int_at_least_unsigned)
    (line_fits 0x50 32 refl (test_fits int_is_zero)
    (line_fits 0x51 32 refl (compare_fits int_equal)
    (line_fits 0x52 32 refl (compare_fits int_unequal)
    (line_fits 0x53 32 refl (compare_fits (int_less_signed 64))
    (line_fits 0x54 32 refl (compare_fits int_less_unsigned)
    (line_fits 0x55 32 refl (compare_fits (int_greater_signed 64))
    (line_fits 0x56 32 refl (compare_fits int_greater_unsigned)
    (line_fits 0x57 32 refl (compare_fits (int_at_most_signed 64))
    (line_fits 0x58 32 refl (compare_fits int_at_most_unsigned)
    (line_fits 0x59 32 refl (compare_fits (int_at_least_signed 64))
    (line_fits 0x5A 32 refl (compare_fits int_at_least_unsigned)
    (line_fits 0x5B 32 refl (compare_fits (float_equal single))
    (line_fits 0x5C 32 refl (compare_fits (float_unequal single))
    (line_fits 0x5D 32 refl (compare_fits (float_less single))
    (line_fits 0x5E 32 refl (compare_fits (float_greater single))
    (line_fits 0x5F 32 refl (compare_fits (float_at_most single))
    (line_fits 0x60 32 refl (compare_fits (float_at_least single))
    (line_fits 0x61 32 refl (compare_fits (float_equal double))
    (line_fits 0x62 32 refl (compare_fits (float_unequal double))
    (line_fits 0x63 32 refl (compare_fits (float_less double))
    (line_fits 0x64 32 refl (compare_fits (float_greater double))
    (line_fits 0x65 32 refl (compare_fits (float_at_most double))
    (line_fits 0x66 32 refl (compare_fits (float_at_least double))
    (line_fits 0x6A 32 refl (fits_two add_32)
    (line_fits 0x6B 32 refl (fits_two sub_32)
    (line_fits 0x7C 64 refl (fits_two add_64)
    (line_fits 0x7D 64 refl (fits_two sub_64)
    (line_fits 0x8C 32 refl (fits_one neg_single)
    (line_fits 0x92 32 refl (fits_two add-single)
    (line_fits 0x93 32 refl (fits_two sub-single)
    (line_fits 0x94 32 refl (fits_two mul-single)
    (line_fits 0x95 32 refl (fits_two div-single)
    (line_fits 0x9A 64 refl (fits_one neg_double)
    (line_fits 0xA0 64 refl (fits_two add-double)
    (line_fits 0xA1 64 refl (fits_two sub-double)
    (line_fits 0xA2 64 refl (fits_two mul-double)
    (line_fits 0xA3 64 refl (fits_two div-double)
    none_left_lem)))))))))))))))))))))))))))))))))))))))))))))))

some_is_one : {A : Type 0} {x y : A} → some x ≡ some y → x ≡ y
some_is_one e = cc

found_fits : (b : ℕ) {rows : List (ℕ × Deed)} → AllFit rows → {deed : Deed} → find b rows ≡ some deed → Fits (width_at b) deed
found_fits b none_left_lem e = impossible cc
found_fits b (line_fits {deed = it} {more = more} code n width fits rest) {deed} e = go (eqb b code) refl e (λ f. found_fits b rest f)
  where
    go : (t : Bool) → eqb b code ≡ t → cond t (some it) (find b more) ≡ some deed → (find b more ≡ some deed → Fits (width_at b) deed) → Fits (width_at b) deed
    go true is e later =
        let here : Fits (width_at b) it = rw (eqb-true b code is, width) fits in
        subst (Fits (width_at b)) (some_is_one e) here
    go false is e later = later e

pub results_fit : ResultsFit
unfolding deed_of
results_fit = record { results = λ code e is. fit code e is }
  where
    fit : (code : ℕ) {deed : Deed} {kinds : Numeric} → find code deeds ≡ some deed → numeric_of code ≡ some kinds → Fits (width_of kinds.result) deed
    fit code {deed} {kinds} e is =
        let same : width_at code ≡ width_of kinds.result = ap (λ (o : Option Numeric). given o 0 (λ kinds. width_of kinds.result)) is in
        subst (λ (n : ℕ). Fits n deed) same (found_fits code all_fit e)
