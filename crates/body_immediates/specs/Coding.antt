-- An instruction as the code holds it, by scope's syntax, and the definitions' readers of instructions, one for
-- each kind of immediates.
use Rattle.std.specs.Prelude.{ℕ, ◌+◌, Bool, true, false, cond, List, [], ◌∷◌, eqb}
use Rattle.scope.specs.Told.{told}
use Rattle.std.specs.Prelude.{Result}
use Rattle.scope.specs.declared.Refused.{Refused}
use Rattle.scope.specs.Reading.{Read, Reader}
use Rattle.scope.specs.Numbers.{bits32, bits64, u32, s32, s64, float32, float64}
use Rattle.scope.specs.Syntax.{Heap, Val}
use Rattle.scope.specs.Sections.{heap_at}
use Rattle.scope.specs.Instructions.{Cast, Op, unreachable, nop, return, drop_value, br, br_if, local_get, local_set, local_tee, i32_const, i64_const, f32_const, f64_const, numeric, ref_null, ref_is_null, ref_eq, ref_as_non_null, struct_new, struct_new_default, struct_get, struct_set, ref_test, ref_cast, br_on_cast, br_on_cast_fail, struct_new_desc, struct_new_default_desc, ref_get_desc, ref_cast_desc_eq, br_on_cast_desc_eq, br_on_cast_desc_eq_fail, Instr, block, loop, end, op, having, having_two, opening}
use Rattle.type_table.specs.Kept.{kept}
use Rattle.type_read.specs.Codes.{heap_code_kept, val_code_kept}
use Rattle.body_immediates.specs.declared.Instruction.{Instruction}
use Rattle.body_immediates.specs.declared.Instruction

-- a block's type: 0 for no result, else one more than its code
abbrev pub result_code : List Val → ℕ
result_code [] = 0
result_code (v ∷ vs) = val_code_kept v + 1

abbrev pub cast_with : {A : Type 0} → (Bool → Bool → ℕ → ℕ → ℕ → A) → Cast → A
cast_with make k = make k.source_null k.target_null k.label (heap_code_kept k.source) (heap_code_kept k.target)

unfoldable pub operation_of : Op → Instruction
operation_of unreachable = Instruction.TheVariants.Unreachable
operation_of nop = Instruction.TheVariants.Nop
operation_of return = Instruction.TheVariants.Return
operation_of drop_value = Instruction.TheVariants.Drop
operation_of (br l) = Instruction.TheVariants.Br l
operation_of (br_if l) = Instruction.TheVariants.BrIf l
operation_of (local_get x) = Instruction.TheVariants.LocalGet x
operation_of (local_set x) = Instruction.TheVariants.LocalSet x
operation_of (local_tee x) = Instruction.TheVariants.LocalTee x
operation_of (i32_const n) = Instruction.TheVariants.I32Const n
operation_of (i64_const n) = Instruction.TheVariants.I64Const n
operation_of (f32_const n) = Instruction.TheVariants.F32Const n
operation_of (f64_const n) = Instruction.TheVariants.F64Const n
operation_of (numeric b) = Instruction.TheVariants.Numeric b
operation_of (ref_null h) = Instruction.TheVariants.RefNull (heap_code_kept h)
operation_of ref_is_null = Instruction.TheVariants.RefIsNull
operation_of ref_eq = Instruction.TheVariants.RefEq
operation_of ref_as_non_null = Instruction.TheVariants.RefAsNonNull
operation_of (struct_new x) = Instruction.TheVariants.StructNew (kept x)
operation_of (struct_new_default x) = Instruction.TheVariants.StructNewDefault (kept x)
operation_of (struct_get x i) = Instruction.TheVariants.StructGet (kept x) i
operation_of (struct_set x i) = Instruction.TheVariants.StructSet (kept x) i
operation_of (ref_test n h) = Instruction.TheVariants.RefTest n (heap_code_kept h)
operation_of (ref_cast n h) = Instruction.TheVariants.RefCast n (heap_code_kept h)
operation_of (br_on_cast k) = cast_with Instruction.TheVariants.BrOnCast k
operation_of (br_on_cast_fail k) = cast_with Instruction.TheVariants.BrOnCastFail k
operation_of (struct_new_desc x) = Instruction.TheVariants.StructNewDesc (kept x)
operation_of (struct_new_default_desc x) = Instruction.TheVariants.StructNewDefaultDesc (kept x)
operation_of (ref_get_desc x) = Instruction.TheVariants.RefGetDesc (kept x)
operation_of (ref_cast_desc_eq n h) = Instruction.TheVariants.RefCastDescEq n (heap_code_kept h)
operation_of (br_on_cast_desc_eq k) = cast_with Instruction.TheVariants.BrOnCastDescEq k
operation_of (br_on_cast_desc_eq_fail k) = cast_with Instruction.TheVariants.BrOnCastDescEqFail k

unfoldable pub instruction_of : Instr → Instruction
instruction_of (block rs) = Instruction.TheVariants.Block (result_code rs)
instruction_of (loop rs) = Instruction.TheVariants.Loop (result_code rs)
instruction_of end = Instruction.TheVariants.End
instruction_of (op o) = operation_of o

-- what the readers answer

abbrev pub instruction_is : Read Instr → Result (Instruction × ℕ) Refused
instruction_is = told instruction_of

-- the instructions of each kind of immediates, by their code; the last of a kind stands for every other code

abbrev pub opened : ℕ → List Val → Instr
opened b rs = cond (eqb b 0x02) (block rs) (loop rs)

unfoldable pub opening_at : ℕ → Reader Instr
opening_at b = opening (opened b)

abbrev pub numbered : ℕ → ℕ → Op
numbered b x =
    cond (eqb b 0x0C) (br x) (cond (eqb b 0x0D) (br_if x) (cond (eqb b 0x20) (local_get x) (cond (eqb b 0x21) (local_set x) (local_tee x))))

unfoldable pub numbered_at : ℕ → Reader Instr
numbered_at b = having u32 (numbered b)

unfoldable pub constant_at : Reader Instr
constant_at = having s32 (λ n. i32_const (bits32 n))

unfoldable pub wide_at : Reader Instr
wide_at = having s64 (λ n. i64_const (bits64 n))

unfoldable pub float32_const_at : Reader Instr
float32_const_at = having float32 f32_const

unfoldable pub float64_const_at : Reader Instr
float64_const_at = having float64 f64_const

unfoldable pub null_at : Reader Instr
null_at = having heap_at ref_null

abbrev pub typed : ℕ → ℕ → Op
typed b x =
    cond (eqb b 0x00) (struct_new x)
    (cond (eqb b 0x01) (struct_new_default x)
    (cond (eqb b 0x20) (struct_new_desc x) (cond (eqb b 0x21) (struct_new_default_desc x) (ref_get_desc x))))

unfoldable pub typed_at : ℕ → Reader Instr
typed_at b = having u32 (typed b)

abbrev pub fielded : ℕ → ℕ → ℕ → Op
fielded b x i = cond (eqb b 0x02) (struct_get x i) (struct_set x i)

unfoldable pub fielded_at : ℕ → Reader Instr
fielded_at b = having_two (fielded b)

abbrev pub tested : ℕ → Heap → Op
tested b h =
    cond (eqb b 0x14) (ref_test false h)
    (cond (eqb b 0x15) (ref_test true h)
    (cond (eqb b 0x16) (ref_cast false h)
    (cond (eqb b 0x17) (ref_cast true h) (cond (eqb b 0x23) (ref_cast_desc_eq false h) (ref_cast_desc_eq true h)))))

unfoldable pub tested_at : ℕ → Reader Instr
tested_at b = having heap_at (tested b)
