-- The integer tests by the definitions (scope's Integers.antt), over the width in bits.
use Rattle.std.specs.Prelude.{ℕ, Bool}
use Rattle.scope.specs.Integers.{int_is_zero, int_equal, int_unequal, int_less_signed, int_less_unsigned, int_greater_signed, int_greater_unsigned, int_at_most_signed, int_at_most_unsigned, int_at_least_signed, int_at_least_unsigned}
use Rattle.scope.specs.Arithmetic.{as_bits}
use Rattle.run_integers.specs.declared.IntegerTest
use Rattle.run_integers.specs.declared.IntegerTest.{IntegerTest}

abbrev pub test_of : IntegerTest → ℕ → ℕ → ℕ → Bool
test_of IntegerTest.TheVariants.Equal n a b = int_equal a b
test_of IntegerTest.TheVariants.Unequal n a b = int_unequal a b
test_of IntegerTest.TheVariants.LessSigned n a b = int_less_signed n a b
test_of IntegerTest.TheVariants.LessUnsigned n a b = int_less_unsigned a b
test_of IntegerTest.TheVariants.GreaterSigned n a b = int_greater_signed n a b
test_of IntegerTest.TheVariants.GreaterUnsigned n a b = int_greater_unsigned a b
test_of IntegerTest.TheVariants.AtMostSigned n a b = int_at_most_signed n a b
test_of IntegerTest.TheVariants.AtMostUnsigned n a b = int_at_most_unsigned a b
test_of IntegerTest.TheVariants.AtLeastSigned n a b = int_at_least_signed n a b
test_of IntegerTest.TheVariants.AtLeastUnsigned n a b = int_at_least_unsigned a b

-- what a test gives
abbrev pub test_bits : IntegerTest → ℕ → ℕ → ℕ → ℕ
test_bits test n a b = as_bits (test_of test n a b)

abbrev pub zero_bits : ℕ → ℕ
zero_bits a = as_bits (int_is_zero a)
