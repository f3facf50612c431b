-- The number of the type that an instruction makes an object of, and that an object's word can hold it.
use Rattle.std.specs.Prelude.{ℕ, ◌<◌, ◌^◌}
use Rattle.body_immediates.specs.declared.Instruction.{Instruction}
use Rattle.body_immediates.specs.declared.Instruction

-- 0 of an instruction that makes no object
unfoldable pub number_of : Instruction → ℕ
number_of Instruction.TheVariants.Unreachable = 0
number_of Instruction.TheVariants.Nop = 0
number_of (Instruction.TheVariants.Block w) = 0
number_of (Instruction.TheVariants.Loop w) = 0
number_of Instruction.TheVariants.End = 0
number_of (Instruction.TheVariants.Br l) = 0
number_of (Instruction.TheVariants.BrIf l) = 0
number_of Instruction.TheVariants.Return = 0
number_of Instruction.TheVariants.Drop = 0
number_of (Instruction.TheVariants.LocalGet x) = 0
number_of (Instruction.TheVariants.LocalSet x) = 0
number_of (Instruction.TheVariants.LocalTee x) = 0
number_of (Instruction.TheVariants.I32Const n) = 0
number_of (Instruction.TheVariants.I64Const n) = 0
number_of (Instruction.TheVariants.F32Const n) = 0
number_of (Instruction.TheVariants.F64Const n) = 0
number_of (Instruction.TheVariants.Numeric b) = 0
number_of (Instruction.TheVariants.RefNull h) = 0
number_of Instruction.TheVariants.RefIsNull = 0
number_of Instruction.TheVariants.RefEq = 0
number_of Instruction.TheVariants.RefAsNonNull = 0
number_of (Instruction.TheVariants.StructNew x) = x
number_of (Instruction.TheVariants.StructNewDefault x) = x
number_of (Instruction.TheVariants.StructGet x i) = 0
number_of (Instruction.TheVariants.StructSet x i) = 0
number_of (Instruction.TheVariants.RefTest n h) = 0
number_of (Instruction.TheVariants.RefCast n h) = 0
number_of (Instruction.TheVariants.BrOnCast m n l h k) = 0
number_of (Instruction.TheVariants.BrOnCastFail m n l h k) = 0
number_of (Instruction.TheVariants.StructNewDesc x) = x
number_of (Instruction.TheVariants.StructNewDefaultDesc x) = x
number_of (Instruction.TheVariants.RefGetDesc x) = 0
number_of (Instruction.TheVariants.RefCastDescEq n h) = 0
number_of (Instruction.TheVariants.BrOnCastDescEq m n l h k) = 0
number_of (Instruction.TheVariants.BrOnCastDescEqFail m n l h k) = 0

-- the code keeps the type of an object in 16 bits
pub record Modest (i : Instruction) : Type 0 where
  pub small : number_of i < 2 ^ 16
