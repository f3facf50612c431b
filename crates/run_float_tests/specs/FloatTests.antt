-- The comparisons of floats by the language (lib.Ieee) and by the definitions (scope's Floats.antt), over the width.
use Rattle.std.specs.Prelude.{ℕ, Bool, Float}
use Rattle.std.specs.Float.Ieee.{lt, eq, le, ne}
use Rattle.scope.specs.Rounding.{Width}
use Rattle.scope.specs.Floats.{float_equal, float_unequal, float_less, float_greater, float_at_most, float_at_least}
use Rattle.scope.specs.Arithmetic.{as_bits}
use Rattle.run_float_tests.specs.declared.FloatTest
use Rattle.run_float_tests.specs.declared.FloatTest.{FloatTest}

-- on the language's floats
abbrev pub holds_of : FloatTest → Float → Float → Bool
holds_of FloatTest.TheVariants.Equal x y = eq x y
holds_of FloatTest.TheVariants.Unequal x y = ne x y
holds_of FloatTest.TheVariants.Less x y = lt x y
holds_of FloatTest.TheVariants.Greater x y = lt y x
holds_of FloatTest.TheVariants.AtMost x y = le x y
holds_of FloatTest.TheVariants.AtLeast x y = le y x

-- on bits
abbrev pub float_test : FloatTest → Width → ℕ → ℕ → Bool
float_test FloatTest.TheVariants.Equal w a b = float_equal w a b
float_test FloatTest.TheVariants.Unequal w a b = float_unequal w a b
float_test FloatTest.TheVariants.Less w a b = float_less w a b
float_test FloatTest.TheVariants.Greater w a b = float_greater w a b
float_test FloatTest.TheVariants.AtMost w a b = float_at_most w a b
float_test FloatTest.TheVariants.AtLeast w a b = float_at_least w a b

abbrev pub float_test_bits : FloatTest → Width → ℕ → ℕ → ℕ
float_test_bits test w a b = as_bits (float_test test w a b)
