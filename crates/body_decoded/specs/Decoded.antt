-- The instruction that a value of the code's enum says: a total reading of its codes, the other way of immediates'
-- Coding.antt.
use Rattle.std.specs.Prelude.{ℕ, ◌-◌, Bool, cond, List, [], ◌∷◌, eqb}
use Rattle.scope.specs.Syntax.{Val}
use Rattle.scope.specs.Instructions.{Cast, unreachable, nop, return, drop_value, br, br_if, local_get, local_set, local_tee, i32_const, i64_const, f32_const, f64_const, numeric, ref_null, ref_is_null, ref_eq, ref_as_non_null, struct_new, struct_new_default, struct_get, struct_set, ref_test, ref_cast, br_on_cast, br_on_cast_fail, struct_new_desc, struct_new_default_desc, ref_get_desc, ref_cast_desc_eq, br_on_cast_desc_eq, br_on_cast_desc_eq_fail, Instr, block, loop, end, op}
use Rattle.type_table.specs.View.{heap_at_code, val_at_code}
use Rattle.body_immediates.specs.declared.Instruction.{Instruction}
use Rattle.body_immediates.specs.declared.Instruction

-- a block's type: 0 for no result, else one more than its code
abbrev pub block_results : ℕ → List Val
block_results w = cond (eqb w 0) [] (val_at_code (w - 1) ∷ [])

abbrev pub cast_of : ℕ → Bool → ℕ → Bool → ℕ → Cast
cast_of l m h n k = record { label = l; source_null = m; source = heap_at_code h; target_null = n; target = heap_at_code k }

unfoldable pub instr_of : Instruction → Instr
instr_of Instruction.TheVariants.Unreachable = op unreachable
instr_of Instruction.TheVariants.Nop = op nop
instr_of (Instruction.TheVariants.Block w) = block (block_results w)
instr_of (Instruction.TheVariants.Loop w) = loop (block_results w)
instr_of Instruction.TheVariants.End = end
instr_of (Instruction.TheVariants.Br l) = op (br l)
instr_of (Instruction.TheVariants.BrIf l) = op (br_if l)
instr_of Instruction.TheVariants.Return = op return
instr_of Instruction.TheVariants.Drop = op drop_value
instr_of (Instruction.TheVariants.LocalGet x) = op (local_get x)
instr_of (Instruction.TheVariants.LocalSet x) = op (local_set x)
instr_of (Instruction.TheVariants.LocalTee x) = op (local_tee x)
instr_of (Instruction.TheVariants.I32Const n) = op (i32_const n)
instr_of (Instruction.TheVariants.I64Const n) = op (i64_const n)
instr_of (Instruction.TheVariants.F32Const n) = op (f32_const n)
instr_of (Instruction.TheVariants.F64Const n) = op (f64_const n)
instr_of (Instruction.TheVariants.Numeric b) = op (numeric b)
instr_of (Instruction.TheVariants.RefNull h) = op (ref_null (heap_at_code h))
instr_of Instruction.TheVariants.RefIsNull = op ref_is_null
instr_of Instruction.TheVariants.RefEq = op ref_eq
instr_of Instruction.TheVariants.RefAsNonNull = op ref_as_non_null
instr_of (Instruction.TheVariants.StructNew x) = op (struct_new x)
instr_of (Instruction.TheVariants.StructNewDefault x) = op (struct_new_default x)
instr_of (Instruction.TheVariants.StructGet x i) = op (struct_get x i)
instr_of (Instruction.TheVariants.StructSet x i) = op (struct_set x i)
instr_of (Instruction.TheVariants.RefTest n h) = op (ref_test n (heap_at_code h))
instr_of (Instruction.TheVariants.RefCast n h) = op (ref_cast n (heap_at_code h))
instr_of (Instruction.TheVariants.BrOnCast m n l h k) = op (br_on_cast (cast_of l m h n k))
instr_of (Instruction.TheVariants.BrOnCastFail m n l h k) = op (br_on_cast_fail (cast_of l m h n k))
instr_of (Instruction.TheVariants.StructNewDesc x) = op (struct_new_desc x)
instr_of (Instruction.TheVariants.StructNewDefaultDesc x) = op (struct_new_default_desc x)
instr_of (Instruction.TheVariants.RefGetDesc x) = op (ref_get_desc x)
instr_of (Instruction.TheVariants.RefCastDescEq n h) = op (ref_cast_desc_eq n (heap_at_code h))
instr_of (Instruction.TheVariants.BrOnCastDescEq m n l h k) = op (br_on_cast_desc_eq (cast_of l m h n k))
instr_of (Instruction.TheVariants.BrOnCastDescEqFail m n l h k) = op (br_on_cast_desc_eq_fail (cast_of l m h n k))
