-- What a numeric code comes to on the two topmost operands alone: the machine's `calculate` (scope's Machine.antt) without the
-- rest of the machine. proofs/Laws.antt says that it is the machine's `do_numeric`.
use Rattle.std.specs.Prelude.{ℕ, ◌≡◌, Bool, cond, Option as Perhaps, Some, None, Result, Ok, Err}
use Rattle.std.proofs.Math.Option.{Option, none, some}
use Rattle.scope.specs.Reading.{given}
use Rattle.scope.specs.Syntax.{Number, i32}
use Rattle.scope.specs.Order.{same_number}
use Rattle.scope.specs.Numeric.{Numeric, numeric_of}
use Rattle.scope.specs.Arithmetic.{Deed, of_one, of_two, as_bits, deed_of}
use Rattle.scope.specs.Machine.{Value, number, null, object}
use Rattle.run_value.specs.declared.Value.{Value as Carrier}
use Rattle.run_value.specs.Carried.{decoded}
use Rattle.run_calculated.specs.declared.Calculated
use Rattle.run_calculated.specs.declared.Calculated.{Calculated}
use Rattle.run_calculated.specs.declared.Uncalculated
use Rattle.run_calculated.specs.declared.Uncalculated.{Uncalculated}

-- a result in place of one operand, or of two; trap 46; an operand is missing or of another kind
pub data Comes : Type 0 where
  one_gives : Value → Comes
  two_give : Value → Comes
  other : Comes
  wrong : Comes

-- a number's bits, if it is of this kind
abbrev pub bits_as : Number → Value → Option ℕ
bits_as k (number j n) = cond (same_number j k) (some n) none
bits_as k null = none
bits_as k (object o) = none

-- the operands are of kind k and the result of kind j. The first is the topmost; the definitions' operation has it last.
unfoldable pub by_one : Number → Number → (ℕ → ℕ) → Value → Comes
by_one k j f first = given (bits_as k first) wrong (λ a. one_gives (number j (f a)))

unfoldable pub by_two : Number → Number → (ℕ → ℕ → ℕ) → Value → Value → Comes
by_two k j f first second = given (bits_as k first) wrong (λ b. given (bits_as k second) wrong (λ a. two_give (number j (f a b))))

abbrev pub by_deed : Numeric → Value → Value → Deed → Comes
by_deed kinds first second (of_one f) = by_one kinds.kind kinds.result f first
by_deed kinds first second (of_two f) = by_two kinds.kind kinds.result f first second

unfoldable pub comes_to : ℕ → Value → Value → Comes
comes_to code first second = given (deed_of code) other (λ deed. given (numeric_of code) wrong (λ kinds. by_deed kinds first second deed))

-- what the code's answer says
abbrev pub Calculation : Type 0
Calculation = Result Calculated Uncalculated

abbrev pub told : Calculation → Comes
told (Ok (Calculated.TheVariants.OfOne v)) = one_gives (decoded v)
told (Ok (Calculated.TheVariants.OfTwo v)) = two_give (decoded v)
told (Err Uncalculated.TheVariants.Other) = other
told (Err Uncalculated.TheVariants.Wrong) = wrong

-- what the code may have none of, as the definitions write it
abbrev pub perhaps : {A : Type 0} → Perhaps A → Option A
perhaps (Some a) = some a
perhaps None = none

-- the answers

pub record TruthIs (holds : Bool) (r : Carrier) : Type 0 where
  pub is : decoded r ≡ number i32 (as_bits holds)

pub record OneIs (k j : Number) (f : ℕ → ℕ) (first : Carrier) (r : Calculation) : Type 0 where
  pub is : told r ≡ by_one k j f (decoded first)

pub record TwoIs (k j : Number) (f : ℕ → ℕ → ℕ) (first second : Carrier) (r : Calculation) : Type 0 where
  pub is : told r ≡ by_two k j f (decoded first) (decoded second)

pub record CalculatedIs (code : ℕ) (first second : Carrier) (r : Calculation) : Type 0 where
  pub is : told r ≡ comes_to code (decoded first) (decoded second)
