-- The words of a value say that value, and they are its words.
use Prim.Native.Nat.{ℕ}
use mathlib.Core.Path.{◌≡◌, refl, ap}
use mathlib.Core.List.{[], ◌∷◌}
use native.Mathlib.Omega.{arith}
use lib.Ieee.{binary32, binary64, to_bits}
use Rattle.scope.specs.Syntax.{Number, i32, i64, f32, f64}
use Rattle.scope.specs.Machine.{number}
use Rattle.scope.specs.Memory.{value_words}
use Rattle.run_values.specs.Layout.{no_value}
use Rattle.run_values.specs.Values.{within, value_at, Canon}
use Rattle.run_values.proofs.Laws.{canon_kind}
use Rattle.run_value.specs.declared.Value
use Rattle.run_value.specs.declared.Value.{Value as Carrier}
use Rattle.run_value.specs.Carried.{decoded, value_kind, value_bits}

pub within-twice : (k : Number) (n : ℕ) → within k (within k n) ≡ within k n
within-twice i32 n = omega arith
within-twice i64 n = omega arith
within-twice f32 n = omega arith
within-twice f64 n = omega arith

twice : (k : Number) (n : ℕ) → number k (within k (within k n)) ≡ number k (within k n)
twice k n = ap (number k) (within-twice k n)

pub said : (v : Carrier) → value_at (value_kind v) (value_bits v) ≡ decoded v
unfolding value_at value_kind value_bits
said (Value.TheVariants.I32 n) = twice i32 n
said (Value.TheVariants.I64 n) = twice i64 n
said (Value.TheVariants.F32 x) = twice f32 (to_bits binary32 x)
said (Value.TheVariants.F64 x) = twice f64 (to_bits binary64 x)
said (Value.TheVariants.Nan32 n) = twice f32 n
said (Value.TheVariants.Nan64 n) = twice f64 n
said Value.TheVariants.Null = refl
said (Value.TheVariants.Object o) = refl

its_words : (v : Carrier) → value_kind v ∷ value_bits v ∷ [] ≡ value_words (decoded v)
unfolding value_kind value_bits
its_words (Value.TheVariants.I32 n) = refl
its_words (Value.TheVariants.I64 n) = refl
its_words (Value.TheVariants.F32 x) = refl
its_words (Value.TheVariants.F64 x) = refl
its_words (Value.TheVariants.Nan32 n) = refl
its_words (Value.TheVariants.Nan64 n) = refl
its_words Value.TheVariants.Null = refl
its_words (Value.TheVariants.Object o) = refl

pub canon_said : (v : Carrier) → Canon (value_kind v) (value_bits v)
canon_said v = record { is = rw (said v) (its_words v) }

-- so none of them is that of no value
pub some_kind : (v : Carrier) → value_kind v ≡ no_value → ⊥
some_kind v = canon_kind (canon_said v)
