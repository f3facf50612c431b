-- Request 1 of document 02: "The run does add, sub, eqz and comparisons of integers, and comparisons, neg, add, sub, mul and div
-- of floats." A line for each such code, in the order of the codes, with the core standard's name; of any other numeric code
-- the run does nothing (trap 46). The kinds of operands and result are those of specs/Numeric.antt.
use Rattle.std.specs.Prelude.{ℕ, Bool, cond, List, [], ◌∷◌}
use Rattle.std.proofs.Math.Option.{Option}
use Rattle.scope.specs.Instructions.{find}
use Rattle.scope.specs.Rounding.{single, double}
use Rattle.scope.specs.Integers.{int_add, int_sub, int_is_zero, int_equal, int_unequal, int_less_signed, int_less_unsigned, int_greater_signed, int_greater_unsigned, int_at_most_signed, int_at_most_unsigned, int_at_least_signed, int_at_least_unsigned}
use Rattle.scope.specs.Floats.{float_neg, float_add, float_sub, float_mul, float_div, float_equal, float_unequal, float_less, float_greater, float_at_most, float_at_least}

-- what the run does: the result's bits by those of one operand, or of the first and the second
pub data Deed : Type 0 where
  of_one : (ℕ → ℕ) → Deed
  of_two : (ℕ → ℕ → ℕ) → Deed

-- a test gives 1 where it holds, and 0 where not
abbrev pub as_bits : Bool → ℕ
as_bits holds = cond holds 1 0

abbrev pub asks : (ℕ → Bool) → Deed
asks test = of_one (λ a. as_bits (test a))

abbrev pub compares : (ℕ → ℕ → Bool) → Deed
compares test = of_two (λ a b. as_bits (test a b))

abbrev pub deeds : List (ℕ × Deed)
deeds =
    (0x45, asks int_is_zero)  -- i32.eqz
    ∷ (0x46, compares int_equal)  -- i32.eq
    ∷ (0x47, compares int_unequal)  -- i32.ne
    ∷ (0x48, compares (int_less_signed 32))  -- i32.lt_s
    ∷ (0x49, compares int_less_unsigned)  -- i32.lt_u
    ∷ (0x4A, compares (int_greater_signed 32))  -- i32.gt_s
    ∷ (0x4B, compares int_greater_unsigned)  -- i32.gt_u
    ∷ (0x4C, compares (int_at_most_signed 32))  -- i32.le_s
    ∷ (0x4D, compares int_at_most_unsigned)  -- i32.le_u
    ∷ (0x4E, compares (int_at_least_signed 32))  -- i32.ge_s
    ∷ (0x4F, compares int_at_least_unsigned)  -- i32.ge_u
    ∷ (0x50, asks int_is_zero)  -- i64.eqz
    ∷ (0x51, compares int_equal)  -- i64.eq
    ∷ (0x52, compares int_unequal)  -- i64.ne
    ∷ (0x53, compares (int_less_signed 64))  -- i64.lt_s
    ∷ (0x54, compares int_less_unsigned)  -- i64.lt_u
    ∷ (0x55, compares (int_greater_signed 64))  -- i64.gt_s
    ∷ (0x56, compares int_greater_unsigned)  -- i64.gt_u
    ∷ (0x57, compares (int_at_most_signed 64))  -- i64.le_s
    ∷ (0x58, compares int_at_most_unsigned)  -- i64.le_u
    ∷ (0x59, compares (int_at_least_signed 64))  -- i64.ge_s
    ∷ (0x5A, compares int_at_least_unsigned)  -- i64.ge_u
    ∷ (0x5B, compares (float_equal single))  -- f32.eq
    ∷ (0x5C, compares (float_unequal single))  -- f32.ne
    ∷ (0x5D, compares (float_less single))  -- f32.lt
    ∷ (0x5E, compares (float_greater single))  -- f32.gt
    ∷ (0x5F, compares (float_at_most single))  -- f32.le
    ∷ (0x60, compares (float_at_least single))  -- f32.ge
    ∷ (0x61, compares (float_equal double))  -- f64.eq
    ∷ (0x62, compares (float_unequal double))  -- f64.ne
    ∷ (0x63, compares (float_less double))  -- f64.lt
    ∷ (0x64, compares (float_greater double))  -- f64.gt
    ∷ (0x65, compares (float_at_most double))  -- f64.le
    ∷ (0x66, compares (float_at_least double))  -- f64.ge
    ∷ (0x6A, of_two (int_add 32))  -- i32.add
    ∷ (0x6B, of_two (int_sub 32))  -- i32.sub
    ∷ (0x7C, of_two (int_add 64))  -- i64.add
    ∷ (0x7D, of_two (int_sub 64))  -- i64.sub
    ∷ (0x8C, of_one (float_neg single))  -- f32.neg
    ∷ (0x92, of_two (float_add single))  -- f32.add
    ∷ (0x93, of_two (float_sub single))  -- f32.sub
    ∷ (0x94, of_two (float_mul single))  -- f32.mul
    ∷ (0x95, of_two (float_div single))  -- f32.div
    ∷ (0x9A, of_one (float_neg double))  -- f64.neg
    ∷ (0xA0, of_two (float_add double))  -- f64.add
    ∷ (0xA1, of_two (float_sub double))  -- f64.sub
    ∷ (0xA2, of_two (float_mul double))  -- f64.mul
    ∷ (0xA3, of_two (float_div double))  -- f64.div
    ∷ []

-- none of a numeric code that the run does not do
unfoldable pub deed_of : ℕ → Option Deed
deed_of b = find b deeds
