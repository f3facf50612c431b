-- The core standard's flt and feq, a constructor for each way in which one pattern is less than another or equal to it: "-0
-- equals +0. Where a NaN stands only ne holds." A NaN is in none of them. fgt, fle and fge are made of these two, fne is what
-- feq is not.
use Rattle.std.specs.Prelude.{ℕ, ◌<◌, ◌≡◌, Bool, true, false}
use Rattle.scope.specs.Numbers.{Whole, plus, minus}
use Rattle.scope.specs.Rounding.{Width, infinite, units}
use Rattle.scope.specs.Floats.{with_sign, float_equal, float_unequal, float_less, float_greater, float_at_most, float_at_least}
use Rattle.scope.specs.Integers.{WholeLess}
use Rattle.facts_floats.specs.Standard.{zero_of, infinity}

-- so many units, by the sign
abbrev pub counted : Bool → ℕ → Whole
counted true n = minus n
counted false n = plus n

pub data Less (w : Width) : ℕ → ℕ → Type 0 where
  numbers : (s t : Bool) (m n : ℕ) → m < infinite w → n < infinite w
      → WholeLess (counted s (units w m)) (counted t (units w n)) → Less w (with_sign w s m) (with_sign w t n)
  below_infinity : (s : Bool) (m : ℕ) → m < infinite w → Less w (with_sign w s m) (infinity w false)
  above_minus_infinity : (t : Bool) (n : ℕ) → n < infinite w → Less w (infinity w true) (with_sign w t n)
  infinities : Less w (infinity w true) (infinity w false)

pub data Equal (w : Width) : ℕ → ℕ → Type 0 where
  zeros : (s t : Bool) → Equal w (zero_of w s) (zero_of w t)
  same_number_lem : (s : Bool) (m : ℕ) → m < infinite w → Equal w (with_sign w s m) (with_sign w s m)
  same_infinity : (s : Bool) → Equal w (infinity w s) (infinity w s)

-- "Where a NaN stands only ne holds"
pub record OnlyUnequal (w : Width) (a b : ℕ) : Type 0 where
  pub eq : float_equal w a b ≡ false
  pub ne : float_unequal w a b ≡ true
  pub lt : float_less w a b ≡ false
  pub gt : float_greater w a b ≡ false
  pub le : float_at_most w a b ≡ false
  pub ge : float_at_least w a b ≡ false
