-- A type number is kept as at most 4,095: so whatever instruction is read, an object's word can hold the number of its type.
use Prim.Native.Nat.{◌≤◌}
use native.Mathlib.Omega.{arith}
use Rattle.scope.specs.Instructions.{Op, unreachable, nop, return, drop_value, br, br_if, local_get, local_set, local_tee, i32_const, i64_const, f32_const, f64_const, numeric, ref_null, ref_is_null, ref_eq, ref_as_non_null, struct_new, struct_new_default, struct_get, struct_set, ref_test, ref_cast, br_on_cast, br_on_cast_fail, struct_new_desc, struct_new_default_desc, ref_get_desc, ref_cast_desc_eq, br_on_cast_desc_eq, br_on_cast_desc_eq_fail, Instr, block, loop, end, op}
use Rattle.body_immediates.specs.Coding.{operation_of, instruction_of}
use Rattle.body_decoded.specs.Named.{number_of, Modest}

kept-number : (o : Op) → number_of (operation_of o) ≤ 4_095
unfolding number_of operation_of
kept-number unreachable = omega arith
kept-number nop = omega arith
kept-number return = omega arith
kept-number drop_value = omega arith
kept-number (br l) = omega arith
kept-number (br_if l) = omega arith
kept-number (local_get x) = omega arith
kept-number (local_set x) = omega arith
kept-number (local_tee x) = omega arith
kept-number (i32_const n) = omega arith
kept-number (i64_const n) = omega arith
kept-number (f32_const n) = omega arith
kept-number (f64_const n) = omega arith
kept-number (numeric b) = omega arith
kept-number (ref_null h) = omega arith
kept-number ref_is_null = omega arith
kept-number ref_eq = omega arith
kept-number ref_as_non_null = omega arith
kept-number (struct_new x) = omega arith
kept-number (struct_new_default x) = omega arith
kept-number (struct_get x i) = omega arith
kept-number (struct_set x i) = omega arith
kept-number (ref_test n h) = omega arith
kept-number (ref_cast n h) = omega arith
kept-number (br_on_cast k) = omega arith
kept-number (br_on_cast_fail k) = omega arith
kept-number (struct_new_desc x) = omega arith
kept-number (struct_new_default_desc x) = omega arith
kept-number (ref_get_desc x) = omega arith
kept-number (ref_cast_desc_eq n h) = omega arith
kept-number (br_on_cast_desc_eq k) = omega arith
kept-number (br_on_cast_desc_eq_fail k) = omega arith

pub modest : (i : Instr) → Modest (instruction_of i)
unfolding number_of instruction_of
modest (block rs) = record { small = omega arith }
modest (loop rs) = record { small = omega arith }
modest end = record { small = omega arith }
modest (op o) = let few : number_of (operation_of o) ≤ 4_095 = kept-number o in record { small = omega arith }
