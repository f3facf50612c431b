-- The two theorems at bytes that meet their premises: struct.get as it is written, and flags of 4, which are told at their own byte.
use Prim.Native.Nat.{ℕ}
use mathlib.Core.Path.{◌≡◌, refl}
use mathlib.Core.List.{List, [], ◌∷◌}
use Rattle.scope.specs.Refusals.{not_listed}
use Rattle.scope.specs.Instructions.{struct_get, op}
use Rattle.scope.proofs.Computes.{computes}
use Rattle.facts_instructions.specs.Laws.{Lies}
use Rattle.facts_instructions.specs.InstructionFaults.{InstructionFault}
use Rattle.facts_instructions.proofs.Exactly.{instructions_read}
use Rattle.facts_instructions.proofs.InstructionFaults.{instruction_faults}

pub get_lies : Lies (0xFB ∷ 0x02 ∷ 0x02 ∷ 0x09 ∷ []) 0 (op (struct_get 2 9)) 4
unfolding computes
get_lies = (instructions_read.exactly (0xFB ∷ 0x02 ∷ 0x02 ∷ 0x09 ∷ []) 0 (op (struct_get 2 9)) 4).0 refl

pub four_is_no-flag : InstructionFault (0xFB ∷ 0x18 ∷ 0x04 ∷ []) 0 not_listed 2
unfolding computes
four_is_no-flag = (instruction_faults.exactly.exactly (0xFB ∷ 0x18 ∷ 0x04 ∷ []) 0 not_listed 2).0 refl
