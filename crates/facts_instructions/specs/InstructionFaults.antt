-- What is wrong with an instruction, by what lies there: the first item at fault, all before it being well written. 3 for "byte or FB
-- number not listed", at the byte or at the number.
use Rattle.std.specs.Prelude.{ℕ, ◌+◌, ◌<◌, ◌≡◌, ◌⊎◌, List, [], ◌∷◌}
use Rattle.std.proofs.Math.Option.{none, some}
use Rattle.std.proofs.Math.ListN.{get_elem?}
use Rattle.scope.specs.Refusals.{bytes_end, not_listed}
use Rattle.scope.specs.Instructions.{instr_at}
use Rattle.facts_codes.specs.Numeric.{Among}
use Rattle.facts_sections.specs.Between.{Between}
use Rattle.facts_sections.specs.Writing.{Unsigned}
use Rattle.facts_instructions.specs.Faults.{UnsignedFault, SignedFault, FloatFault, HeapFault, BlockTypeFault, CastFault, FaultsAre}

-- document 01's first bytes but FB, and the constants of request 1
abbrev pub first_codes : List ℕ
first_codes =
    0x00 ∷ 0x01 ∷ 0x02 ∷ 0x03 ∷ 0x0B ∷ 0x0C ∷ 0x0D ∷ 0x0F ∷ 0x1A ∷ 0x20 ∷ 0x21 ∷ 0x22 ∷ 0x41 ∷ 0x42 ∷ 0x43 ∷ 0x44 ∷ 0xD0 ∷ 0xD1 ∷ 0xD3 ∷ 0xD4 ∷ []

-- and its numbers after FB
abbrev pub numbers_after_fb : List ℕ
numbers_after_fb =
    0x00 ∷ 0x01 ∷ 0x02 ∷ 0x05 ∷ 0x14 ∷ 0x15 ∷ 0x16 ∷ 0x17 ∷ 0x18 ∷ 0x19 ∷ 0x20 ∷ 0x21 ∷ 0x22 ∷ 0x23 ∷ 0x24 ∷ 0x25 ∷ 0x26 ∷ []

-- two numbers
pub data TwoFault (s : List ℕ) (at : ℕ) : ℕ → ℕ → Type 0 where
  first_number : {number place : ℕ} → UnsignedFault 32 s at number place → TwoFault s at number place
  second_number : {x next number place : ℕ} {w : List ℕ} → Between s at w next → Unsigned 32 w x → UnsignedFault 32 s next number place → TwoFault s at number place

-- what follows a first byte; an instruction without immediates has no fault there
pub data ImmediateFault (s : List ℕ) (at : ℕ) : ℕ → ℕ → ℕ → Type 0 where
  of_block_lem : {n p : ℕ} → BlockTypeFault s at n p → ImmediateFault s at 0x02 n p
  of_loop_lem : {n p : ℕ} → BlockTypeFault s at n p → ImmediateFault s at 0x03 n p
  of_br : {n p : ℕ} → UnsignedFault 32 s at n p → ImmediateFault s at 0x0C n p
  of_br_if : {n p : ℕ} → UnsignedFault 32 s at n p → ImmediateFault s at 0x0D n p
  of_local_get : {n p : ℕ} → UnsignedFault 32 s at n p → ImmediateFault s at 0x20 n p
  of_local_set : {n p : ℕ} → UnsignedFault 32 s at n p → ImmediateFault s at 0x21 n p
  of_local_tee : {n p : ℕ} → UnsignedFault 32 s at n p → ImmediateFault s at 0x22 n p
  of_i32_const : {n p : ℕ} → SignedFault 32 s at n p → ImmediateFault s at 0x41 n p
  of_i64_const : {n p : ℕ} → SignedFault 64 s at n p → ImmediateFault s at 0x42 n p
  of_f32_const : {n p : ℕ} → FloatFault 4 s at n p → ImmediateFault s at 0x43 n p
  of_f64_const : {n p : ℕ} → FloatFault 8 s at n p → ImmediateFault s at 0x44 n p
  of_ref_null : {n p : ℕ} → HeapFault s at n p → ImmediateFault s at 0xD0 n p

-- what follows FB and its number
pub data ImmediateFaultFB (s : List ℕ) (at : ℕ) : ℕ → ℕ → ℕ → Type 0 where
  of_struct_new : {n p : ℕ} → UnsignedFault 32 s at n p → ImmediateFaultFB s at 0x00 n p
  of_struct_new_default : {n p : ℕ} → UnsignedFault 32 s at n p → ImmediateFaultFB s at 0x01 n p
  of_struct_get : {n p : ℕ} → TwoFault s at n p → ImmediateFaultFB s at 0x02 n p
  of_struct_set : {n p : ℕ} → TwoFault s at n p → ImmediateFaultFB s at 0x05 n p
  of_ref_test : {n p : ℕ} → HeapFault s at n p → ImmediateFaultFB s at 0x14 n p
  of_ref_test_null : {n p : ℕ} → HeapFault s at n p → ImmediateFaultFB s at 0x15 n p
  of_ref_cast : {n p : ℕ} → HeapFault s at n p → ImmediateFaultFB s at 0x16 n p
  of_ref_cast_null : {n p : ℕ} → HeapFault s at n p → ImmediateFaultFB s at 0x17 n p
  of_br_on_cast : {n p : ℕ} → CastFault s at n p → ImmediateFaultFB s at 0x18 n p
  of_br_on_cast_fail : {n p : ℕ} → CastFault s at n p → ImmediateFaultFB s at 0x19 n p
  of_struct_new_desc : {n p : ℕ} → UnsignedFault 32 s at n p → ImmediateFaultFB s at 0x20 n p
  of_struct_new_default_desc : {n p : ℕ} → UnsignedFault 32 s at n p → ImmediateFaultFB s at 0x21 n p
  of_ref_get_desc : {n p : ℕ} → UnsignedFault 32 s at n p → ImmediateFaultFB s at 0x22 n p
  of_ref_cast_desc_eq : {n p : ℕ} → HeapFault s at n p → ImmediateFaultFB s at 0x23 n p
  of_ref_cast_desc_eq_null : {n p : ℕ} → HeapFault s at n p → ImmediateFaultFB s at 0x24 n p
  of_br_on_cast_desc_eq : {n p : ℕ} → CastFault s at n p → ImmediateFaultFB s at 0x25 n p
  of_br_on_cast_desc_eq_fail : {n p : ℕ} → CastFault s at n p → ImmediateFaultFB s at 0x26 n p

pub data InstructionFault (s : List ℕ) (at : ℕ) : ℕ → ℕ → Type 0 where
  code_missing : get_elem? s at ≡ none → InstructionFault s at bytes_end at
  code_not_listed : {b : ℕ} → get_elem? s at ≡ some b → ¬ (b ≡ 0xFB) → ¬ Among b first_codes → (b < 0x45) ⊎ (0xC4 < b) → InstructionFault s at not_listed at
  in_immediates : {b number place : ℕ} → get_elem? s at ≡ some b → ImmediateFault s (at + 1) b number place → InstructionFault s at number place
  number_after_FB : {number place : ℕ} → get_elem? s at ≡ some 0xFB → UnsignedFault 32 s (at + 1) number place → InstructionFault s at number place
  FB_not_listed : {k next : ℕ} {w : List ℕ} → get_elem? s at ≡ some 0xFB → Between s (at + 1) w next → Unsigned 32 w k → ¬ Among k numbers_after_fb
      → InstructionFault s at not_listed (at + 1)
  in_immediates_after_FB : {k next number place : ℕ} {w : List ℕ} → get_elem? s at ≡ some 0xFB → Between s (at + 1) w next → Unsigned 32 w k
      → ImmediateFaultFB s next k number place → InstructionFault s at number place

pub record InstructionFaults : Type 0 where
  pub exactly : FaultsAre InstructionFault instr_at
