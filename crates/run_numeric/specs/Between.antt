-- What a part of the table promises: the answer of the definitions for the codes from `low` on and below `high`.
use Rattle.std.specs.Prelude.{ℕ, ◌≤◌, ◌<◌}
use Rattle.run_value.specs.declared.Value.{Value as Carrier}
use Rattle.run_calculated.specs.Calculations.{Calculation, CalculatedIs}

-- the first code of a float's test, the first after all tests, and the first number that is no byte
abbrev pub first_float_test : ℕ
first_float_test = 0x5B

abbrev pub first_result : ℕ
first_result = 0x67

abbrev pub all_codes : ℕ
all_codes = 256

pub record CalculatedBetween (low high code : ℕ) (first second : Carrier) (r : Calculation) : Type 0 where
  pub is : low ≤ code → code < high → CalculatedIs code first second r
