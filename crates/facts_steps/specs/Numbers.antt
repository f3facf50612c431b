-- The numeric instructions that the run does, a constructor for each, by the core standard's name: its code, the kind of its
-- operands, the kind of its result, and the operation on their bits. What the operations are, line by line of the standard, is
-- said in facts_floats; the first operand is the one below.
use Rattle.std.specs.Prelude.{ℕ, Bool, cond}
use Rattle.scope.specs.Syntax.{Number, i32, i64, f32, f64}
use Rattle.scope.specs.Integers.{int_add, int_at_least_signed, int_at_least_unsigned, int_at_most_signed, int_at_most_unsigned, int_equal, int_greater_signed, int_greater_unsigned, int_is_zero, int_less_signed, int_less_unsigned, int_sub, int_unequal}
use Rattle.scope.specs.Floats.{float_add, float_at_least, float_at_most, float_div, float_equal, float_greater, float_less, float_mul, float_neg, float_sub, float_unequal}
use Rattle.scope.specs.Rounding.{single, double}

-- a test gives 1 where it holds, and 0 where not
abbrev pub asked : (ℕ → Bool) → ℕ → ℕ
asked test a = cond (test a) 1 0

abbrev pub compared : (ℕ → ℕ → Bool) → ℕ → ℕ → ℕ
compared test a b = cond (test a b) 1 0

pub data One : ℕ → Number → Number → (ℕ → ℕ) → Type 0 where
  i32_eqz : One 0x45 i32 i32 (asked int_is_zero)
  i64_eqz : One 0x50 i64 i32 (asked int_is_zero)
  f32_neg : One 0x8C f32 f32 (float_neg single)
  f64_neg : One 0x9A f64 f64 (float_neg double)

pub data Two : ℕ → Number → Number → (ℕ → ℕ → ℕ) → Type 0 where
  i32_eq : Two 0x46 i32 i32 (compared int_equal)
  i32_ne : Two 0x47 i32 i32 (compared int_unequal)
  i32_lt_s : Two 0x48 i32 i32 (compared (int_less_signed 32))
  i32_lt_u : Two 0x49 i32 i32 (compared int_less_unsigned)
  i32_gt_s : Two 0x4A i32 i32 (compared (int_greater_signed 32))
  i32_gt_u : Two 0x4B i32 i32 (compared int_greater_unsigned)
  i32_le_s : Two 0x4C i32 i32 (compared (int_at_most_signed 32))
  i32_le_u : Two 0x4D i32 i32 (compared int_at_most_unsigned)
  i32_ge_s : Two 0x4E i32 i32 (compared (int_at_least_signed 32))
  i32_ge_u : Two 0x4F i32 i32 (compared int_at_least_unsigned)
  i64_eq : Two 0x51 i64 i32 (compared int_equal)
  i64_ne : Two 0x52 i64 i32 (compared int_unequal)
  i64_lt_s : Two 0x53 i64 i32 (compared (int_less_signed 64))
  i64_lt_u : Two 0x54 i64 i32 (compared int_less_unsigned)
  i64_gt_s : Two 0x55 i64 i32 (compared (int_greater_signed 64))
  i64_gt_u : Two 0x56 i64 i32 (compared int_greater_unsigned)
  i64_le_s : Two 0x57 i64 i32 (compared (int_at_most_signed 64))
  i64_le_u : Two 0x58 i64 i32 (compared int_at_most_unsigned)
  i64_ge_s : Two 0x59 i64 i32 (compared (int_at_least_signed 64))
  i64_ge_u : Two 0x5A i64 i32 (compared int_at_least_unsigned)
  f32_eq : Two 0x5B f32 i32 (compared (float_equal single))
  f32_ne : Two 0x5C f32 i32 (compared (float_unequal single))
  f32_lt : Two 0x5D f32 i32 (compared (float_less single))
  f32_gt : Two 0x5E f32 i32 (compared (float_greater single))
  f32_le : Two 0x5F f32 i32 (compared (float_at_most single))
  f32_ge : Two 0x60 f32 i32 (compared (float_at_least single))
  f64_eq : Two 0x61 f64 i32 (compared (float_equal double))
  f64_ne : Two 0x62 f64 i32 (compared (float_unequal double))
  f64_lt : Two 0x63 f64 i32 (compared (float_less double))
  f64_gt : Two 0x64 f64 i32 (compared (float_greater double))
  f64_le : Two 0x65 f64 i32 (compared (float_at_most double))
  f64_ge : Two 0x66 f64 i32 (compared (float_at_least double))
  i32_add : Two 0x6A i32 i32 (int_add 32)
  i32_sub : Two 0x6B i32 i32 (int_sub 32)
  i64_add : Two 0x7C i64 i64 (int_add 64)
  i64_sub : Two 0x7D i64 i64 (int_sub 64)
  f32_add : Two 0x92 f32 f32 (float_add single)
  f32_sub : Two 0x93 f32 f32 (float_sub single)
  f32_mul : Two 0x94 f32 f32 (float_mul single)
  f32_div : Two 0x95 f32 f32 (float_div single)
  f64_add : Two 0xA0 f64 f64 (float_add double)
  f64_sub : Two 0xA1 f64 f64 (float_sub double)
  f64_mul : Two 0xA2 f64 f64 (float_mul double)
  f64_div : Two 0xA3 f64 f64 (float_div double)
