-- Each way out of the readers of branching casts: flags, label, source and target, in the definition's order.
use Prim.Native.Nat.{ℕ, ◌+◌, ◌≤◌}
use mathlib.Core.Path.{◌≡◌, refl, sym, ◌∙◌}
use mathlib.Core.Bool.{Bool, true, false}
use mathlib.Core.List.{List}
use native.Mathlib.Omega.{arith}
use lib.ListN.{get_elem?}
use borrow.Author.Tests.{ne_eqb, le-ltb}
use Rattle.scope.specs.Told.{no_at}
use Rattle.std.specs.Prelude.{Result, Ok, Err}
use Rattle.scope.specs.declared.Refused.{Refused}
use Rattle.scope.specs.Told.{Maybe}
use Rattle.std.specs.Prelude.{None, Some}
use Rattle.scope.specs.Refusals.{bytes_end, not_listed}
use Rattle.scope.specs.Reading.{got, refused}
use Rattle.scope.specs.Numbers.{u32}
use Rattle.scope.specs.Syntax.{Heap}
use Rattle.scope.specs.Sections.{heap_at}
use Rattle.scope.specs.Instructions.{Cast, cast_at}
use Rattle.scope.proofs.Told.{told_got, told_refused, passed}
use Rattle.number_bytes.specs.Bytes.{ByteAt}
use Rattle.number_values.specs.Values.{natural_is}
use Rattle.number_bytes.proofs.Laws.{byte_got, byte_none, next_fits}
use Rattle.number_values.proofs.Laws.{natural_got, natural_refused}
use Rattle.type_read.specs.Codes.{coded_is, heap_code_kept}
use Rattle.body_immediates.specs.declared.Instruction.{Instruction}
use Rattle.body_immediates.specs.declared.Instruction
use Rattle.body_immediates.specs.Coding.{cast_with, operation_of, instruction_of, instruction_is}
use Rattle.body_cast_immediates.specs.Casting.{casting_of, cast_is, cast_types_at, casting, casting_at}
use Rattle.body_cast_immediates.specs.declared.Casting.{Casting}

-- cast_types_at

module _ (m n : Bool) (s : List ℕ) (at : ℕ) where
  pub cast_unlabelled : {no : Refused} → Err no ≡ natural_is (u32 s at) → Err no ≡ cast_is (cast_types_at m n s at)
  unfolding cast_types_at
  cast_unlabelled a = rw (natural_refused (u32 s at) a refl)

  module _ {l from : ℕ} (a : Ok (l, from) ≡ natural_is (u32 s at)) where
    pub cast_no_source : {no : Refused} → Err no ≡ coded_is heap_code_kept (heap_at s from) → Err no ≡ cast_is (cast_types_at m n s at)
    unfolding cast_types_at
    cast_no_source b = rw (natural_got (u32 s at) a refl, told_refused heap_code_kept (heap_at s from) b)

    module _ {c to : ℕ} (b : Ok (c, to) ≡ coded_is heap_code_kept (heap_at s from)) where
      no_target : {no : Refused} (h : Heap) → heap_at s from ≡ got h to → heap_at s to ≡ refused no.number no.at → Err no ≡ cast_is (cast_types_at m n s at)
      unfolding cast_types_at
      no_target h read none = rw (natural_got (u32 s at) a refl, read, none)

      pub cast_no_target : {no : Refused} → Err no ≡ coded_is heap_code_kept (heap_at s to) → Err no ≡ cast_is (cast_types_at m n s at)
      cast_no_target d = let (h, read, code) = told_got heap_code_kept (heap_at s from) b in no_target h read (told_refused heap_code_kept (heap_at s to) d)

      both_read : {k next : ℕ} (h t : Heap) → heap_at s from ≡ got h to → c ≡ heap_code_kept h → heap_at s to ≡ got t next → k ≡ heap_code_kept t → Ok (record { label = l; source_null = m; source = c; target_null = n; target = k }, next) ≡ cast_is (cast_types_at m n s at)
      unfolding cast_types_at
      both_read h t read code read' code' = rw (natural_got (u32 s at) a refl, read, read', code, code')

      pub cast_both : {k next : ℕ} → Ok (k, next) ≡ coded_is heap_code_kept (heap_at s to) → Ok (record { label = l; source_null = m; source = c; target_null = n; target = k }, next) ≡ cast_is (cast_types_at m n s at)
      cast_both d =
          let (h, read, code) = told_got heap_code_kept (heap_at s from) b in
          let (t, read', code') = told_got heap_code_kept (heap_at s to) d in
          both_read h t read code read' code'

pub ruleset cast_types_exits = (passed, cast_unlabelled, cast_no_source, cast_no_target, cast_both)

-- cast_at

four : (b : ℕ) → (b ≡ 0 → ⊥) → (b ≡ 1 → ⊥) → (b ≡ 2 → ⊥) → (b ≡ 3 → ⊥) → 4 ≤ b
four b p q r t = omega arith

module _ {s : List ℕ} {at : ℕ} {r : Maybe ℕ} (a : ByteAt s at r) where
  pub cast_missing : r ≡ None → Err (no_at bytes_end at) ≡ cast_is (cast_at s at)
  unfolding cast_at
  cast_missing e = rw (byte_none (get_elem? s at) a.is e)

  module _ {b : ℕ} (e : r ≡ Some b) where
    pub cast_neither : {q : Result (Casting × ℕ) Refused} → b ≡ 0 → q ≡ cast_is (cast_types_at false false s (at + 1)) → q ≡ cast_is (cast_at s at)
    unfolding cast_at cast_types_at
    cast_neither f g = g ∙ sym (rw (byte_got (get_elem? s at) a.is e, f))

    pub cast_from_null : {q : Result (Casting × ℕ) Refused} → b ≡ 1 → q ≡ cast_is (cast_types_at true false s (at + 1)) → q ≡ cast_is (cast_at s at)
    unfolding cast_at cast_types_at
    cast_from_null f g = g ∙ sym (rw (byte_got (get_elem? s at) a.is e, f))

    pub cast_to_null : {q : Result (Casting × ℕ) Refused} → b ≡ 2 → q ≡ cast_is (cast_types_at false true s (at + 1)) → q ≡ cast_is (cast_at s at)
    unfolding cast_at cast_types_at
    cast_to_null f g = g ∙ sym (rw (byte_got (get_elem? s at) a.is e, f))

    pub cast_null_null : {q : Result (Casting × ℕ) Refused} → b ≡ 3 → q ≡ cast_is (cast_types_at true true s (at + 1)) → q ≡ cast_is (cast_at s at)
    unfolding cast_at cast_types_at
    cast_null_null f g = g ∙ sym (rw (byte_got (get_elem? s at) a.is e, f))

    pub cast_unlisted : (b ≡ 0 → ⊥) → (b ≡ 1 → ⊥) → (b ≡ 2 → ⊥) → (b ≡ 3 → ⊥) → Err (no_at not_listed at) ≡ cast_is (cast_at s at)
    unfolding cast_at
    cast_unlisted f g h i = rw (byte_got (get_elem? s at) a.is e, le-ltb b 4 (four b f g h i))

pub ruleset cast_exits = (next_fits, cast_missing, cast_neither, cast_from_null, cast_to_null, cast_null_null, cast_unlisted)

-- casting_at

module _ (b : ℕ) (s : List ℕ) (at : ℕ) where
  pub casting_refused : {no : Refused} → Err no ≡ cast_is (cast_at s at) → Err no ≡ instruction_is (casting_at b s at)
  unfolding casting_at
  casting_refused a = rw (told_refused casting_of (cast_at s at) a)

  module _ {k : Casting} {next : ℕ} (a : Ok (k, next) ≡ cast_is (cast_at s at)) where
    -- a branching cast's instruction
    abbrev Maker : Type 0
    Maker = Bool → Bool → ℕ → ℕ → ℕ → Instruction

    abbrev made : Maker → Instruction
    made make = make k.source_null k.target_null k.label k.source k.target

    casting_read : (make : Maker) (c : Cast) → cast_at s at ≡ got c next → k ≡ casting_of c → cast_with make c ≡ operation_of (casting b c) → Ok (made make, next) ≡ instruction_is (casting_at b s at)
    unfolding casting_at instruction_of
    casting_read make c read code f = rw (read, code, f)

    casting_with : (make : Maker) → ((c : Cast) → cast_with make c ≡ operation_of (casting b c)) → Ok (made make, next) ≡ instruction_is (casting_at b s at)
    casting_with make f = let (c, read, code) = told_got casting_of (cast_at s at) a in casting_read make c read code (f c)

    pub casting_cast : b ≡ 0x18 → Ok (made Instruction.TheVariants.BrOnCast, next) ≡ instruction_is (casting_at b s at)
    unfolding operation_of
    casting_cast f = casting_with Instruction.TheVariants.BrOnCast (λ c. rw f)

    pub casting_fail : b ≡ 0x19 → Ok (made Instruction.TheVariants.BrOnCastFail, next) ≡ instruction_is (casting_at b s at)
    unfolding operation_of
    casting_fail f = casting_with Instruction.TheVariants.BrOnCastFail (λ c. rw f)

    pub casting_desc : b ≡ 0x25 → Ok (made Instruction.TheVariants.BrOnCastDescEq, next) ≡ instruction_is (casting_at b s at)
    unfolding operation_of
    casting_desc f = casting_with Instruction.TheVariants.BrOnCastDescEq (λ c. rw f)

    pub casting_desc_fail : (b ≡ 0x18 → ⊥) → (b ≡ 0x19 → ⊥) → (b ≡ 0x25 → ⊥) → Ok (made Instruction.TheVariants.BrOnCastDescEqFail, next) ≡ instruction_is (casting_at b s at)
    unfolding operation_of
    casting_desc_fail p q t = casting_with Instruction.TheVariants.BrOnCastDescEqFail (λ c. rw (ne_eqb b 0x18 p, ne_eqb b 0x19 q, ne_eqb b 0x25 t))

pub ruleset casting_exits = (passed, casting_refused, casting_cast, casting_fail, casting_desc, casting_desc_fail)
