-- The float operations by the language (lib.Ieee) and by the definitions (scope's Floats.antt), over the format and the width.
use Rattle.std.specs.Prelude.{ℕ, Float}
use Rattle.std.proofs.Math.Option.{Option, none, some}
use Rattle.std.specs.Float.{Format, binary32, binary64}
use Rattle.std.specs.Float.Ieee.{of_bits, add, sub, mul, div}
use Rattle.scope.specs.Reading.{given}
use Rattle.scope.specs.Syntax.{Number, f32, f64}
use Rattle.scope.specs.Rounding.{Width}
use Rattle.scope.specs.Floats.{float_add, float_sub, float_mul, float_div}
use Rattle.scope.specs.Machine.{Value}
use Rattle.run_calculated.specs.Calculations.{bits_as}
use Rattle.run_floats.specs.declared.FloatDeed
use Rattle.run_floats.specs.declared.FloatDeed.{FloatDeed}

-- on the language's floats
abbrev pub operated : Format → FloatDeed → Float → Float → Float
operated f FloatDeed.TheVariants.Add x y = add f x y
operated f FloatDeed.TheVariants.Sub x y = sub f x y
operated f FloatDeed.TheVariants.Mul x y = mul f x y
operated f FloatDeed.TheVariants.Div x y = div f x y

-- on bits
abbrev pub deed_bits : FloatDeed → Width → ℕ → ℕ → ℕ
deed_bits FloatDeed.TheVariants.Add w a b = float_add w a b
deed_bits FloatDeed.TheVariants.Sub w a b = float_sub w a b
deed_bits FloatDeed.TheVariants.Mul w a b = float_mul w a b
deed_bits FloatDeed.TheVariants.Div w a b = float_div w a b

-- the kind of number that a format's floats are
abbrev pub kind_of : Format → Number
kind_of binary32 = f32
kind_of binary64 = f64

-- what a value's bits are read as, if it is a float of the format
abbrev pub float_of : Format → Value → Option Float
float_of f v = given (bits_as (kind_of f) v) none (λ n. some (of_bits f n))
