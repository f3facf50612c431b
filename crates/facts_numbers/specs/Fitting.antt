-- Every result of a numeric code that the run does is within the width of its kind, whatever the bits of the operands are. With the
-- constants (facts_codes, `Proper`) and the zeros of defaults this is why a number's bits fit its kind.
use Rattle.std.specs.Prelude.{ℕ, ◌<◌, ◌^◌, ◌≡◌}
use Rattle.std.proofs.Math.Option.{some}
use Rattle.scope.specs.Numeric.{Numeric, numeric_of}
use Rattle.scope.specs.Arithmetic.{Deed, of_one, of_two, deed_of}
use Rattle.facts_codes.specs.Proper.{width_of}

-- the results are of so many bits
pub data Fits (n : ℕ) : Deed → Type 0 where
  fits_one : {f : ℕ → ℕ} → ((a : ℕ) → f a < 2 ^ n) → Fits n (of_one f)
  fits_two : {f : ℕ → ℕ → ℕ} → ((a b : ℕ) → f a b < 2 ^ n) → Fits n (of_two f)

pub record ResultsFit : Type 0 where
  pub results : (code : ℕ) {deed : Deed} {kinds : Numeric} → deed_of code ≡ some deed → numeric_of code ≡ some kinds → Fits (width_of kinds.result) deed
