-- What is said of a number's bytes, and what they are answered as, by scope's definitions.
use Rattle.std.specs.Prelude.{ℕ, ◌-◌, ◌*◌, ◌<◌, ◌≤◌, ◌^◌, ◌≡◌, Bool, cond, ◌&&◌, ltb, leb}
use Rattle.scope.specs.Told.{told}
use Rattle.std.specs.Prelude.{Result}
use Rattle.scope.specs.declared.Refused.{Refused}
use Rattle.scope.specs.Reading.{Read, got, refused}
use Rattle.scope.specs.Refusals.{bad_number}
use Rattle.scope.specs.Numbers.{bits, unless_padded, in_range, within_unsigned, Whole, plus, minus, signed_of, within_signed}
use Rattle.number_values.specs.declared.Integer.{Integer}
use Rattle.number_values.specs.declared.Integer

-- one byte to `most` bytes, seven bits of each
pub record Few (most v k : ℕ) : Type 0 where
  pub some : 1 ≤ k
  pub few : k ≤ most
  pub seven : v < 2 ^ (7 * k)

-- a number's bytes: one to ten
pub record Counts (k : ℕ) : Type 0 where
  pub some : 1 ≤ k
  pub few : k ≤ 10

-- a number below zero, of so many bytes
pub record Below (v k : ℕ) : Type 0 where
  pub negative : 1 ≤ v
  pub counts : Counts k

-- Of k bytes one is to spare where what lies below the sign, n, lies below that of one byte less.
abbrev pub has_spare : ℕ → ℕ → Bool
has_spare n k = ltb 1 k && ltb n (2 ^ (7 * (k - 1) - 1))

abbrev pub natural_is : Read ℕ → Result (ℕ × ℕ) Refused
natural_is = told (λ v. v)

abbrev pub integer_is : Read Whole → Integer
integer_is (got (plus v) next) = Integer.TheVariants.Plus v next
integer_is (got (minus v) next) = Integer.TheVariants.Minus v next
integer_is (refused n p) = Integer.TheVariants.Refused n p

-- the weight of the highest bit of k bytes
pub record SignWeight (k r : ℕ) : Type 0 where
  pub is : 1 ≤ k → k ≤ 9 → r ≡ 2 ^ (7 * k - 1)
  pub twice : 1 ≤ k → k ≤ 9 → 2 * r ≡ 2 ^ (7 * k)
  pub small : r ≤ 2 ^ 62

-- k bytes with the bits v as a number of 32 bits
unfoldable pub natural_of : ℕ → ℕ → ℕ → ℕ → Read ℕ
natural_of at v k next = in_range 32 at (bits v k next) (λ u j. u) within_unsigned

-- a whole number from -half up to half
abbrev pub in_half : ℕ → Whole → Bool
in_half half (plus v) = ltb v half
in_half half (minus v) = leb v half

-- k bytes with the bits v as a number in that range
unfoldable pub range_of : ℕ → ℕ → ℕ → ℕ → ℕ → Read Whole
range_of at half v k next = cond (in_half half (signed_of v k)) (unless_padded at k next within_signed (signed_of v k)) (refused bad_number at)
