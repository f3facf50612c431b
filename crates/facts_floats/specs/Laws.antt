-- What is proved of the numbers of change request 1, on one page: of floats over the width, of integers over the width in
-- bits. A pattern is below two sign bits.
use Rattle.std.specs.Prelude.{ℕ, suc, ◌+◌, ◌-◌, ◌*◌, ◌^◌, ◌≤◌, ◌<◌, ◌≡◌, Bool, true, false, not}
use Rattle.std.specs.Bool.{beq}
use Rattle.scope.specs.Rounding.{Width, sign_bit, infinite, one, Nearest, rounded}
use Rattle.scope.specs.Floats.{negative, units_of, is_nan, is_zero, Finite, RoundedOnce, float_neg, float_add, float_sub, float_mul, float_div, float_equal, float_less, float_greater, float_at_most, float_at_least}
use Rattle.scope.specs.Integers.{int_add, int_sub, stands_for, WholeLess, int_less_signed, int_greater_signed, int_at_most_signed}
use Rattle.facts_floats.specs.Halfway.{Halfway, twice_halfway}
use Rattle.facts_floats.specs.Standard.{nan_of, Payload, sign_of, Negation, Sum, Difference, Product, Quotient}
use Rattle.facts_floats.specs.Comparing.{Less, Equal, OnlyUnequal}

-- an operation gives what the lines say, and the lines say nothing else
pub record Exactly (w : Width) (lines : ℕ → ℕ → ℕ → Type 0) (operation : ℕ → ℕ → ℕ) : Type 0 where
  pub said : (a b : ℕ) → a < 2 * sign_bit w → b < 2 * sign_bit w → lines a b (operation a b)
  pub only : (a b r : ℕ) → lines a b r → r ≡ operation a b

-- a comparison holds exactly where the lines say so
pub record ExactlyWhere (w : Width) (lines : ℕ → ℕ → Type 0) (test : ℕ → ℕ → Bool) : Type 0 where
  pub holds : (a b : ℕ) → lines a b → test a b ≡ true
  pub said : (a b : ℕ) → a < 2 * sign_bit w → b < 2 * sign_bit w → test a b ≡ true → lines a b

pub record FloatLaws (w : Width) : Type 0 where
  -- "rounded once, to nearest, ties to even": what is computed is nearest, only one number is, and half-way points agree
  pub nearest : (n d : ℕ) → 0 < d → Nearest w n d (rounded w n d)
  pub one_nearest : (n d r s : ℕ) → 0 < d → Nearest w n d r → Nearest w n d s → r ≡ s
  pub halfway : (n d r : ℕ) → 0 < d → Nearest w n d r → Halfway w n d r
  pub by_halfway : (n d r : ℕ) → 0 < d → Halfway w n d r → Nearest w n d r
  -- overflow: exactly from half a step past the greatest value on; and to zero: exactly up to half a unit
  pub overflow : (n d : ℕ) → 0 < d → twice_halfway w d (infinite w - 1) ≤ n * 2 → rounded w n d ≡ infinite w
  pub overflow_only : (n d : ℕ) → 0 < d → rounded w n d ≡ infinite w → twice_halfway w d (infinite w - 1) ≤ n * 2
  pub vanish : (n d : ℕ) → 0 < d → n * 2 ≤ d → rounded w n d ≡ 0
  pub vanish_only : (n d : ℕ) → 0 < d → rounded w n d ≡ 0 → n * 2 ≤ d
  -- add, sub, mul, div
  pub sums : Exactly w (Sum w) (float_add w)
  pub differences : Exactly w (Difference w) (float_sub w)
  pub products : Exactly w (Product w) (float_mul w)
  pub quotients : Exactly w (Quotient w) (float_div w)
  -- "Each float result is rounded once": of numbers, zeros among them
  pub sum_alike : (a b : ℕ) → Finite w a → Finite w b → beq (negative w a) (negative w b) ≡ true
      → RoundedOnce w (negative w a) (units_of w a + units_of w b) 1 (float_add w a b)
  pub sum_first : (a b : ℕ) → Finite w a → Finite w b → beq (negative w a) (negative w b) ≡ false → units_of w b < units_of w a
      → RoundedOnce w (negative w a) (units_of w a - units_of w b) 1 (float_add w a b)
  pub sum_second : (a b : ℕ) → Finite w a → Finite w b → beq (negative w a) (negative w b) ≡ false → units_of w a < units_of w b
      → RoundedOnce w (negative w b) (units_of w b - units_of w a) 1 (float_add w a b)
  pub product : (a b : ℕ) → Finite w a → Finite w b
      → RoundedOnce w (sign_of (negative w a) (negative w b)) (units_of w a * units_of w b) (one w) (float_mul w a b)
  pub quotient : (a b : ℕ) → Finite w a → Finite w b → is_zero w b ≡ false
      → RoundedOnce w (sign_of (negative w a) (negative w b)) (units_of w a * one w) (units_of w b) (float_div w a b)
  -- every result is a pattern of the width
  pub add-fits : (a b : ℕ) → a < 2 * sign_bit w → b < 2 * sign_bit w → float_add w a b < 2 * sign_bit w
  pub sub-fits : (a b : ℕ) → a < 2 * sign_bit w → b < 2 * sign_bit w → float_sub w a b < 2 * sign_bit w
  pub mul-fits : (a b : ℕ) → a < 2 * sign_bit w → b < 2 * sign_bit w → float_mul w a b < 2 * sign_bit w
  pub div-fits : (a b : ℕ) → a < 2 * sign_bit w → b < 2 * sign_bit w → float_div w a b < 2 * sign_bit w
  pub neg_fits : (b : ℕ) → float_neg w b < 2 * sign_bit w
  -- neg
  pub negations : (b : ℕ) → b < 2 * sign_bit w → Negation w b (float_neg w b)
  pub one_negation : (b r : ℕ) → Negation w b r → r ≡ float_neg w b
  -- eq and lt; ne is what eq is not and gt is lt turned round, by definition; le and ge
  pub equals : ExactlyWhere w (Equal w) (float_equal w)
  pub lesses : ExactlyWhere w (Less w) (float_less w)
  pub nan_first : (s : Bool) (p b : ℕ) → Payload w p → OnlyUnequal w (nan_of w s p) b
  pub nan_second : (s : Bool) (p a : ℕ) → Payload w p → OnlyUnequal w a (nan_of w s p)
  pub at_most : (a b : ℕ) → is_nan w a ≡ false → is_nan w b ≡ false → float_at_most w a b ≡ not (float_greater w a b)
  pub at_least : (a b : ℕ) → is_nan w a ≡ false → is_nan w b ≡ false → float_at_least w a b ≡ not (float_less w a b)

-- of n + 1 bits
pub record IntegerLaws (n : ℕ) : Type 0 where
  -- modulo 2 ^ (n + 1)
  pub add-fits : (a b : ℕ) → int_add (suc n) a b < 2 ^ suc n
  pub add_within : (a b : ℕ) → a < 2 ^ suc n → b < 2 ^ suc n → a + b < 2 ^ suc n → int_add (suc n) a b ≡ a + b
  pub add_around : (a b : ℕ) → a < 2 ^ suc n → b < 2 ^ suc n → 2 ^ suc n ≤ a + b → int_add (suc n) a b + 2 ^ suc n ≡ a + b
  pub sub-fits : (a b : ℕ) → int_sub (suc n) a b < 2 ^ suc n
  pub sub_within : (a b : ℕ) → a < 2 ^ suc n → b < 2 ^ suc n → b ≤ a → int_sub (suc n) a b + b ≡ a
  pub sub_around : (a b : ℕ) → a < 2 ^ suc n → b < 2 ^ suc n → a < b → int_sub (suc n) a b + b ≡ a + 2 ^ suc n
  -- the signed order is that of what patterns stand for
  pub signed_less : (a b : ℕ) → a < 2 ^ suc n → b < 2 ^ suc n → int_less_signed (suc n) a b ≡ true → WholeLess (stands_for (suc n) a) (stands_for (suc n) b)
  pub less_signed_lem : (a b : ℕ) → a < 2 ^ suc n → b < 2 ^ suc n → WholeLess (stands_for (suc n) a) (stands_for (suc n) b) → int_less_signed (suc n) a b ≡ true
  pub at_most : (a b : ℕ) → int_at_most_signed (suc n) a b ≡ not (int_greater_signed (suc n) a b)
