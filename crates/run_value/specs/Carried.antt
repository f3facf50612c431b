-- What a value as the code carries it is in the machine (scope's Machine.antt), and the two words by which memory holds it.
use Rattle.std.specs.Prelude.{ℕ, ◌≡◌, List}
use Rattle.std.specs.Float.{binary32, binary64}
use Rattle.std.specs.Float.Ieee.{to_bits}
use Rattle.scope.specs.Syntax.{i32, i64, f32, f64}
use Rattle.scope.specs.Machine.{Value, number, null, object}
use Rattle.run_values.specs.Layout.{i32_kind, i64_kind, f32_kind, f64_kind, null_kind, object_kind}
use Rattle.run_values.specs.Values.{within, value_at, set_value}
use Rattle.run_value.specs.declared.Value
use Rattle.run_value.specs.declared.Value.{Value as Carrier}

-- A float is its bits. One that is no number is carried by its bits, in a case of its own, since the language has one such
-- float, without sign and payload; were it carried as that float, it would be the canonical one.
abbrev pub decoded : Carrier → Value
decoded (Value.TheVariants.I32 n) = number i32 (within i32 n)
decoded (Value.TheVariants.I64 n) = number i64 (within i64 n)
decoded (Value.TheVariants.F32 x) = number f32 (within f32 (to_bits binary32 x))
decoded (Value.TheVariants.F64 x) = number f64 (within f64 (to_bits binary64 x))
decoded (Value.TheVariants.Nan32 n) = number f32 (within f32 n)
decoded (Value.TheVariants.Nan64 n) = number f64 (within f64 n)
decoded Value.TheVariants.Null = null
decoded (Value.TheVariants.Object o) = object o

-- its words

unfoldable pub value_kind : Carrier → ℕ
value_kind (Value.TheVariants.I32 n) = i32_kind
value_kind (Value.TheVariants.I64 n) = i64_kind
value_kind (Value.TheVariants.F32 x) = f32_kind
value_kind (Value.TheVariants.F64 x) = f64_kind
value_kind (Value.TheVariants.Nan32 n) = f32_kind
value_kind (Value.TheVariants.Nan64 n) = f64_kind
value_kind Value.TheVariants.Null = null_kind
value_kind (Value.TheVariants.Object o) = object_kind

unfoldable pub value_bits : Carrier → ℕ
value_bits (Value.TheVariants.I32 n) = within i32 n
value_bits (Value.TheVariants.I64 n) = within i64 n
value_bits (Value.TheVariants.F32 x) = within f32 (to_bits binary32 x)
value_bits (Value.TheVariants.F64 x) = within f64 (to_bits binary64 x)
value_bits (Value.TheVariants.Nan32 n) = within f32 n
value_bits (Value.TheVariants.Nan64 n) = within f64 n
value_bits Value.TheVariants.Null = 0
value_bits (Value.TheVariants.Object o) = o

-- memory with another entry j
abbrev pub with_value : List ℕ → ℕ → Carrier → List ℕ
with_value m j v = set_value m j (value_kind v) (value_bits v)

-- the answers

pub record SingleIs (b : ℕ) (r : Carrier) : Type 0 where
  pub is : decoded r ≡ number f32 (within f32 b)

pub record DoubleIs (b : ℕ) (r : Carrier) : Type 0 where
  pub is : decoded r ≡ number f64 (within f64 b)

pub record ValueIs (k n : ℕ) (r : Carrier) : Type 0 where
  pub is : decoded r ≡ value_at k n
