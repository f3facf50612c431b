-- What a vector is, and when it holds.
use Rattle.std.specs.Prelude.{ℕ, Bool, not, ◌&&◌, eqb}
use Rattle.std.specs.Bool.{beq}
use Rattle.scope.specs.Rounding.{Width, rounded}
use Rattle.scope.specs.Floats.{float_neg, float_equal, float_unequal, float_less, float_greater, float_at_most, float_at_least}
use Rattle.scope.specs.Integers.{int_is_zero, int_equal, int_unequal, int_less_signed, int_less_unsigned, int_greater_signed, int_greater_unsigned, int_at_most_signed, int_at_most_unsigned, int_at_least_signed, int_at_least_unsigned}

-- two floats, and what an operation makes of them
pub record Case : Type 0 where
  pub operation : Width → ℕ → ℕ → ℕ
  pub first : ℕ
  pub second : ℕ
  pub result : ℕ

abbrev pub gives : (Width → ℕ → ℕ → ℕ) → ℕ → ℕ → ℕ → Case
gives f a b r = record { operation = f; first = a; second = b; result = r }

abbrev pub case_holds : Width → Case → Bool
case_holds w c = eqb (c.operation w c.first c.second) c.result

-- a fraction of units, and the magnitude that it is rounded to
pub record Fraction : Type 0 where
  pub over : ℕ
  pub under : ℕ
  pub magnitude : ℕ

abbrev pub rounds : ℕ → ℕ → ℕ → Fraction
rounds n d r = record { over = n; under = d; magnitude = r }

abbrev pub round_holds : Width → Fraction → Bool
round_holds w c = eqb (rounded w c.over c.under) c.magnitude

-- a float, and its negation
pub record Turned : Type 0 where
  pub pattern : ℕ
  pub negation : ℕ

abbrev pub turns : ℕ → ℕ → Turned
turns a r = record { pattern = a; negation = r }

abbrev pub turn_holds : Width → Turned → Bool
turn_holds w c = eqb (float_neg w c.pattern) c.negation

-- how two stand to each other; unordered where one of them is a NaN
pub data Ordered : Type 0 where
  less equal greater unordered : Ordered

-- eq, ne, lt, gt, le and ge give these
abbrev pub six : Ordered → Bool → Bool → Bool → Bool → Bool → Bool → Bool
six less eq ne lt gt le ge = not eq && (ne && (lt && (not gt && (le && not ge))))
six equal eq ne lt gt le ge = eq && (not ne && (not lt && (not gt && (le && ge))))
six greater eq ne lt gt le ge = not eq && (ne && (not lt && (gt && (not le && ge))))
six unordered eq ne lt gt le ge = not eq && (ne && (not lt && (not gt && (not le && not ge))))

-- two floats, and how they stand
pub record Compared : Type 0 where
  pub first : ℕ
  pub second : ℕ
  pub stand : Ordered

abbrev pub compares : ℕ → ℕ → Ordered → Compared
compares a b o = record { first = a; second = b; stand = o }

abbrev pub compared_holds : Width → Compared → Bool
compared_holds w c =
    let a = c.first in
    let b = c.second in
    six c.stand (float_equal w a b) (float_unequal w a b) (float_less w a b) (float_greater w a b) (float_at_most w a b) (float_at_least w a b)

-- two integers, and what an operation makes of them
pub record IntCase : Type 0 where
  pub operation : ℕ → ℕ → ℕ → ℕ
  pub first : ℕ
  pub second : ℕ
  pub result : ℕ

abbrev pub comes : (ℕ → ℕ → ℕ → ℕ) → ℕ → ℕ → ℕ → IntCase
comes f a b r = record { operation = f; first = a; second = b; result = r }

abbrev pub int_case_holds : ℕ → IntCase → Bool
int_case_holds n c = eqb (c.operation n c.first c.second) c.result

-- an integer, and what eqz gives
pub record ZeroTested : Type 0 where
  pub pattern : ℕ
  pub zero : Bool

abbrev pub tests : ℕ → Bool → ZeroTested
tests a b = record { pattern = a; zero = b }

abbrev pub zero_test_holds : ZeroTested → Bool
zero_test_holds c = beq (int_is_zero c.pattern) c.zero

-- two integers, how they stand as signed numbers and how as unsigned ones
pub record IntOrdered : Type 0 where
  pub first : ℕ
  pub second : ℕ
  pub signed : Ordered
  pub unsigned : Ordered

abbrev pub orders : ℕ → ℕ → Ordered → Ordered → IntOrdered
orders a b s u = record { first = a; second = b; signed = s; unsigned = u }

abbrev pub int_order_holds : ℕ → IntOrdered → Bool
int_order_holds n c =
    let a = c.first in
    let b = c.second in
    six c.signed (int_equal a b) (int_unequal a b) (int_less_signed n a b) (int_greater_signed n a b) (int_at_most_signed n a b) (int_at_least_signed n a b)
    && six c.unsigned (int_equal a b) (int_unequal a b) (int_less_unsigned a b) (int_greater_unsigned a b) (int_at_most_unsigned a b) (int_at_least_unsigned a b)
