-- What every instruction has that is read: the bits of a constant are within the width of its kind, those of a float where the
-- input is bytes, and a numeric code is one of the list.
use Rattle.std.specs.Prelude.{ℕ, ◌<◌, ◌^◌, ◌≡◌, List}
use Rattle.std.proofs.Math.Option.{some}
use Rattle.std.proofs.Math.ListN.{get_elem?}
use Rattle.scope.specs.Syntax.{Number, i32, i64, f32, f64}
use Rattle.scope.specs.Instructions.{Op, unreachable, nop, return, drop_value, br, br_if, local_get, local_set, local_tee, i32_const, i64_const, f32_const, f64_const, numeric, ref_null, ref_is_null, ref_eq, ref_as_non_null, struct_new, struct_new_default, struct_get, struct_set, ref_test, ref_cast, br_on_cast, br_on_cast_fail, struct_new_desc, struct_new_default_desc, ref_get_desc, ref_cast_desc_eq, br_on_cast_desc_eq, br_on_cast_desc_eq_fail, Instr, block, loop, end, op}
use Rattle.facts_codes.specs.Numeric.{Listed}

-- the input is made of bytes
pub record AreBytes (s : List ℕ) : Type 0 where
  pub small : (at : ℕ) {b : ℕ} → get_elem? s at ≡ some b → b < 256

-- the bits of a kind
abbrev pub width_of : Number → ℕ
width_of i32 = 32
width_of i64 = 64
width_of f32 = 32
width_of f64 = 64

pub data CodeListed (b : ℕ) : Type 0 where
  code_listed : {ks : List Number} {r : Number} → Listed b ks r → CodeListed b

abbrev pub ProperOp : List ℕ → Op → Type 0
ProperOp s (i32_const n) = n < 2 ^ width_of i32
ProperOp s (i64_const n) = n < 2 ^ width_of i64
ProperOp s (f32_const n) = AreBytes s → n < 2 ^ width_of f32
ProperOp s (f64_const n) = AreBytes s → n < 2 ^ width_of f64
ProperOp s (numeric b) = CodeListed b
ProperOp s unreachable = Unit {0}
ProperOp s nop = Unit {0}
ProperOp s return = Unit {0}
ProperOp s drop_value = Unit {0}
ProperOp s (br l) = Unit {0}
ProperOp s (br_if l) = Unit {0}
ProperOp s (local_get x) = Unit {0}
ProperOp s (local_set x) = Unit {0}
ProperOp s (local_tee x) = Unit {0}
ProperOp s (ref_null h) = Unit {0}
ProperOp s ref_is_null = Unit {0}
ProperOp s ref_eq = Unit {0}
ProperOp s ref_as_non_null = Unit {0}
ProperOp s (struct_new x) = Unit {0}
ProperOp s (struct_new_default x) = Unit {0}
ProperOp s (struct_get x i) = Unit {0}
ProperOp s (struct_set x i) = Unit {0}
ProperOp s (ref_test n h) = Unit {0}
ProperOp s (ref_cast n h) = Unit {0}
ProperOp s (br_on_cast k) = Unit {0}
ProperOp s (br_on_cast_fail k) = Unit {0}
ProperOp s (struct_new_desc x) = Unit {0}
ProperOp s (struct_new_default_desc x) = Unit {0}
ProperOp s (ref_get_desc x) = Unit {0}
ProperOp s (ref_cast_desc_eq n h) = Unit {0}
ProperOp s (br_on_cast_desc_eq k) = Unit {0}
ProperOp s (br_on_cast_desc_eq_fail k) = Unit {0}

abbrev pub Proper : List ℕ → Instr → Type 0
Proper s (op o) = ProperOp s o
Proper s (block rs) = Unit {0}
Proper s (loop rs) = Unit {0}
Proper s end = Unit {0}
