-- What the readers of a width answer, by scope's definition of signed numbers.
use Rattle.std.specs.Prelude.{ℕ, ◌-◌, ◌<◌, ◌≤◌, ◌^◌, ◌≡◌, List}
use Rattle.scope.specs.Numbers.{bits_at, greatest_length, signed}
use Rattle.number_bits.specs.Bits.{above}
use Rattle.number_values.specs.Values.{integer_is}
use Rattle.number_values.specs.declared.Integer.{Integer}
use Rattle.number_values.specs.declared.Integer

-- one statement for every width of five bytes
pub record SignedRead (s : List ℕ) (at half : ℕ) (r : Integer) : Type 0 where
  pub is : (width : ℕ) → greatest_length width ≡ 5 → half ≡ 2 ^ (width - 1) → 2 ^ 6 ≤ half → r ≡ integer_is (signed width s at)

-- the bits `low` of nine bytes that go on, and a tenth byte at `next`, as a number of 64 bits
pub record Tenth (s : List ℕ) (at low next : ℕ) (r : Integer) : Type 0 where
  pub is : low < 2 ^ 63 → bits_at 10 s at ≡ above low (2 ^ 63) 9 (bits_at 1 s next) → r ≡ integer_is (signed 64 s at)
