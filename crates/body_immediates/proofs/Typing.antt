-- Each way out of the readers of instructions with types: what was read of a type is its code, and the code that was tested
-- makes the definition give the same instruction and place.
use Prim.Native.Nat.{ℕ, ◌+◌}
use mathlib.Core.Path.{◌≡◌, refl}
use mathlib.Core.Bool.{true, false}
use mathlib.Core.List.{List}
use native.Mathlib.Omega.{arith}
use lib.ListN.{get_elem?}
use borrow.Author.Tests.{ne_eqb}
use mir.Syntax.{w64}
use mir.Val.{Fits}
use Rattle.scope.specs.Told.{no_at}
use Rattle.std.specs.Prelude.{Ok, Err}
use Rattle.scope.specs.declared.Refused.{Refused}
use Rattle.scope.specs.Told.{Maybe}
use Rattle.std.specs.Prelude.{None, Some}
use Rattle.scope.specs.Refusals.{bytes_end}
use Rattle.scope.specs.Reading.{Read, got}
use Rattle.scope.specs.Syntax.{Heap, Val}
use Rattle.scope.specs.Sections.{heap_at, val_at}
use Rattle.scope.specs.Instructions.{block_type_at}
use Rattle.scope.proofs.Told.{told_got, told_refused, passed}
use Rattle.number_bytes.specs.Bytes.{ByteAt}
use Rattle.number_bytes.proofs.Laws.{byte_got, byte_none, next_fits}
use Rattle.type_read.specs.Codes.{coded_is, heap_code_kept, val_code_kept}
use Rattle.type_read.proofs.Fields.{val_code_most}
use Rattle.body_immediates.specs.declared.Instruction.{Instruction}
use Rattle.body_immediates.specs.declared.Instruction
use Rattle.body_immediates.specs.Coding.{result_code, operation_of, instruction_of, instruction_is, opened, opening_at, null_at, tested, tested_at}

-- block_type_at

module _ {s : List ℕ} {at : ℕ} {r : Maybe ℕ} (a : ByteAt s at r) where
  pub block_missing : r ≡ None → Err (no_at bytes_end at) ≡ coded_is result_code (block_type_at s at)
  unfolding block_type_at
  block_missing e = rw (byte_none (get_elem? s at) a.is e)

  module _ {b : ℕ} (e : r ≡ Some b) where
    pub block_none : b ≡ 0x40 → Ok (0, (at + 1)) ≡ coded_is result_code (block_type_at s at)
    unfolding block_type_at
    block_none f = rw (byte_got (get_elem? s at) a.is e, f)

    module _ (f : b ≡ 0x40 → ⊥) where
      pub block_refused : {no : Refused} → Err no ≡ coded_is val_code_kept (val_at s at) → Err no ≡ coded_is result_code (block_type_at s at)
      unfolding block_type_at
      block_refused c = rw (byte_got (get_elem? s at) a.is e, ne_eqb b 0x40 f, told_refused val_code_kept (val_at s at) c)

      block_read : {k next : ℕ} (v : Val) → val_at s at ≡ got v next → k ≡ val_code_kept v → Ok ((k + 1), next) ≡ coded_is result_code (block_type_at s at)
      unfolding block_type_at
      block_read v read code = rw (byte_got (get_elem? s at) a.is e, ne_eqb b 0x40 f, read, code)

      pub block_one : {k next : ℕ} → Ok (k, next) ≡ coded_is val_code_kept (val_at s at) → Ok ((k + 1), next) ≡ coded_is result_code (block_type_at s at)
      block_one c = let (v, read, code) = told_got val_code_kept (val_at s at) c in block_read v read code

pub result_fits : (o : Read Val) {k next : ℕ} → Ok (k, next) ≡ coded_is val_code_kept o → Fits w64 (k + 1)
result_fits o p = let h = val_code_most o p refl in record { fits = omega arith }

pub ruleset block_exits = (next_fits, passed, block_missing, block_none, block_refused, block_one, result_fits)

-- opening_at

module _ (b : ℕ) (s : List ℕ) (at : ℕ) where
  pub opening_refused : {no : Refused} → Err no ≡ coded_is result_code (block_type_at s at) → Err no ≡ instruction_is (opening_at b s at)
  unfolding opening_at
  opening_refused a = rw (told_refused result_code (block_type_at s at) a)

  module _ {k next : ℕ} (a : Ok (k, next) ≡ coded_is result_code (block_type_at s at)) where
    opening_read : (make : ℕ → Instruction) (rs : List Val) → block_type_at s at ≡ got rs next → k ≡ result_code rs → make (result_code rs) ≡ instruction_of (opened b rs) → Ok ((make k), next) ≡ instruction_is (opening_at b s at)
    unfolding opening_at
    opening_read make rs read code f = rw (read, code, f)

    opening_with : (make : ℕ → Instruction) → ((rs : List Val) → make (result_code rs) ≡ instruction_of (opened b rs)) → Ok ((make k), next) ≡ instruction_is (opening_at b s at)
    opening_with make f = let (rs, read, code) = told_got result_code (block_type_at s at) a in opening_read make rs read code (f rs)

    pub opening_block : b ≡ 0x02 → Ok ((Instruction.TheVariants.Block k), next) ≡ instruction_is (opening_at b s at)
    unfolding instruction_of
    opening_block f = opening_with Instruction.TheVariants.Block (λ rs. rw f)

    pub opening_loop : (b ≡ 0x02 → ⊥) → Ok ((Instruction.TheVariants.Loop k), next) ≡ instruction_is (opening_at b s at)
    unfolding instruction_of
    opening_loop f = opening_with Instruction.TheVariants.Loop (λ rs. rw (ne_eqb b 0x02 f))

pub ruleset opening_exits = (passed, opening_refused, opening_block, opening_loop)

-- null_at and tested_at

module _ (s : List ℕ) (at : ℕ) where
  pub null_refused : {no : Refused} → Err no ≡ coded_is heap_code_kept (heap_at s at) → Err no ≡ instruction_is (null_at s at)
  unfolding null_at
  null_refused a = rw (told_refused heap_code_kept (heap_at s at) a)

  null_read : {k next : ℕ} (h : Heap) → heap_at s at ≡ got h next → k ≡ heap_code_kept h → Ok ((Instruction.TheVariants.RefNull k), next) ≡ instruction_is (null_at s at)
  unfolding null_at instruction_of operation_of
  null_read h read code = rw (read, code)

  pub null_got : {k next : ℕ} → Ok (k, next) ≡ coded_is heap_code_kept (heap_at s at) → Ok ((Instruction.TheVariants.RefNull k), next) ≡ instruction_is (null_at s at)
  null_got a = let (h, read, code) = told_got heap_code_kept (heap_at s at) a in null_read h read code

pub ruleset null_exits = (passed, null_refused, null_got)

module _ (b : ℕ) (s : List ℕ) (at : ℕ) where
  pub tested_refused : {no : Refused} → Err no ≡ coded_is heap_code_kept (heap_at s at) → Err no ≡ instruction_is (tested_at b s at)
  unfolding tested_at
  tested_refused a = rw (told_refused heap_code_kept (heap_at s at) a)

  module _ {k next : ℕ} (a : Ok (k, next) ≡ coded_is heap_code_kept (heap_at s at)) where
    tested_read : (h : Heap) {i : Instruction} → heap_at s at ≡ got h next → i ≡ operation_of (tested b h) → Ok (i, next) ≡ instruction_is (tested_at b s at)
    unfolding tested_at instruction_of
    tested_read h read f = rw (read, f)

    tested_with : {i : Instruction} → ((h : Heap) → k ≡ heap_code_kept h → i ≡ operation_of (tested b h)) → Ok (i, next) ≡ instruction_is (tested_at b s at)
    tested_with f = let (h, read, code) = told_got heap_code_kept (heap_at s at) a in tested_read h read (f h code)

    pub tested_test : b ≡ 0x14 → Ok ((Instruction.TheVariants.RefTest false k), next) ≡ instruction_is (tested_at b s at)
    unfolding operation_of
    tested_test f = tested_with (λ h code. rw (f, code))

    pub tested_test_null : b ≡ 0x15 → Ok ((Instruction.TheVariants.RefTest true k), next) ≡ instruction_is (tested_at b s at)
    unfolding operation_of
    tested_test_null f = tested_with (λ h code. rw (f, code))

    pub tested_cast : b ≡ 0x16 → Ok ((Instruction.TheVariants.RefCast false k), next) ≡ instruction_is (tested_at b s at)
    unfolding operation_of
    tested_cast f = tested_with (λ h code. rw (f, code))

    pub tested_cast_null : b ≡ 0x17 → Ok ((Instruction.TheVariants.RefCast true k), next) ≡ instruction_is (tested_at b s at)
    unfolding operation_of
    tested_cast_null f = tested_with (λ h code. rw (f, code))

    pub tested_desc : b ≡ 0x23 → Ok ((Instruction.TheVariants.RefCastDescEq false k), next) ≡ instruction_is (tested_at b s at)
    unfolding operation_of
    tested_desc f = tested_with (λ h code. rw (f, code))

    pub tested_desc_null : (b ≡ 0x14 → ⊥) → (b ≡ 0x15 → ⊥) → (b ≡ 0x16 → ⊥) → (b ≡ 0x17 → ⊥) → (b ≡ 0x23 → ⊥) → Ok ((Instruction.TheVariants.RefCastDescEq true k), next) ≡ instruction_is (tested_at b s at)
    unfolding operation_of
    tested_desc_null p q t u v = tested_with (λ h code. rw (ne_eqb b 0x14 p, ne_eqb b 0x15 q, ne_eqb b 0x16 t, ne_eqb b 0x17 u, ne_eqb b 0x23 v, code))

pub ruleset tested_exits = (passed, tested_refused, tested_test, tested_test_null, tested_cast, tested_cast_null, tested_desc, tested_desc_null)
