-- What an instruction does to the open blocks, by its case.
use Prim.Native.Nat.{ℕ}
use mathlib.Core.Path.{◌≡◌, refl, sym, ap, ◌∙◌}
use mathlib.Core.Bool.{Bool, true, false, ◌&&◌, false≢true}
use lib.Dec.{leb}
use denote.Enum.Declared.{tag_of}
use Rattle.scope.specs.Instructions.{Op, unreachable, nop, return, drop_value, br, br_if, local_get, local_set, local_tee, i32_const, i64_const, f32_const, f64_const, numeric, ref_null, ref_is_null, ref_eq, ref_as_non_null, struct_new, struct_new_default, struct_get, struct_set, ref_test, ref_cast, br_on_cast, br_on_cast_fail, struct_new_desc, struct_new_default_desc, ref_get_desc, ref_cast_desc_eq, br_on_cast_desc_eq, br_on_cast_desc_eq_fail, Instr, block, loop, end, op}
use Rattle.scope.proofs.Impossible.{contradiction, impossible}
use Rattle.body_immediates.specs.declared.Instruction.{Instruction}
use Rattle.body_immediates.specs.declared.Instruction
use Rattle.body_immediates.specs.Coding.{operation_of, instruction_of}
use Rattle.body_immediates.specs.contracts.Instruction.{the_type}
use Rattle.run_ends.specs.declared.Kind.{Kind}
use Rattle.run_ends.specs.declared.Kind
use Rattle.run_ends.specs.Noting.{kind_of, KindIs}

-- an instruction's kind, by its case: the codes 2, 3 and 4 are those of a block, a loop and an end

tag : Instruction → ℕ
tag i = tag_of the_type i

opens-or_ends : Instruction → Bool
opens-or_ends i = leb 2 (tag i) && leb (tag i) 4

op_inside : (o : Op) → opens-or_ends (operation_of o) ≡ false
unfolding opens-or_ends tag operation_of
op_inside unreachable = refl
op_inside nop = refl
op_inside return = refl
op_inside drop_value = refl
op_inside (br l) = refl
op_inside (br_if l) = refl
op_inside (local_get x) = refl
op_inside (local_set x) = refl
op_inside (local_tee x) = refl
op_inside (i32_const n) = refl
op_inside (i64_const n) = refl
op_inside (f32_const n) = refl
op_inside (f64_const n) = refl
op_inside (numeric b) = refl
op_inside (ref_null h) = refl
op_inside ref_is_null = refl
op_inside ref_eq = refl
op_inside ref_as_non_null = refl
op_inside (struct_new x) = refl
op_inside (struct_new_default x) = refl
op_inside (struct_get x i) = refl
op_inside (struct_set x i) = refl
op_inside (ref_test n h) = refl
op_inside (ref_cast n h) = refl
op_inside (br_on_cast k) = refl
op_inside (br_on_cast_fail k) = refl
op_inside (struct_new_desc x) = refl
op_inside (struct_new_default_desc x) = refl
op_inside (ref_get_desc x) = refl
op_inside (ref_cast_desc_eq n h) = refl
op_inside (br_on_cast_desc_eq k) = refl
op_inside (br_on_cast_desc_eq_fail k) = refl

module _ {i : Instruction} where
  -- it is none of those inside a block
  not-inside : (o : Op) → opens-or_ends i ≡ true → i ≡ operation_of o → ⊥
  not-inside o e f = false≢true (sym (op_inside o) ∙ ap opens-or_ends (sym f) ∙ e)

  is_opening : opens-or_ends i ≡ true → (i ≡ Instruction.TheVariants.End → ⊥) → KindIs i Kind.TheVariants.Opens
  unfolding instruction_of
  is_opening e n = record { is = go }
    where
      go : (j : Instr) → i ≡ instruction_of j → Kind.TheVariants.Opens ≡ kind_of j
      go (block rs) f = refl
      go (loop rs) f = refl
      go end f = absurd (n f)
      go (op o) f = absurd (not-inside o e f)

  pub kind_end : i ≡ Instruction.TheVariants.End → KindIs i Kind.TheVariants.Closes
  unfolding instruction_of opens-or_ends tag
  kind_end e = record { is = go }
    where
      go : (j : Instr) → i ≡ instruction_of j → Kind.TheVariants.Closes ≡ kind_of j
      go (block rs) f = impossible cc
      go (loop rs) f = impossible cc
      go end f = refl
      go (op o) f = absurd (not-inside o (rw e) f)

  -- every other instruction: it is none of the three
  pub kind_inside : ((w : ℕ) → i ≡ Instruction.TheVariants.Block w → ⊥) → ((w : ℕ) → i ≡ Instruction.TheVariants.Loop w → ⊥) → (i ≡ Instruction.TheVariants.End → ⊥) → KindIs i Kind.TheVariants.Inside
  unfolding instruction_of
  kind_inside not_block not_loop not_end = record { is = go }
    where
      go : (j : Instr) → i ≡ instruction_of j → Kind.TheVariants.Inside ≡ kind_of j
      go (block rs) f = absurd (not_block _ f)
      go (loop rs) f = absurd (not_loop _ f)
      go end f = absurd (not_end f)
      go (op o) f = refl

pub kind_block : (w : ℕ) → KindIs (Instruction.TheVariants.Block w) Kind.TheVariants.Opens
unfolding opens-or_ends tag
kind_block w = is_opening refl (λ f. contradiction cc)

pub kind_loop : (w : ℕ) → KindIs (Instruction.TheVariants.Loop w) Kind.TheVariants.Opens
unfolding opens-or_ends tag
kind_loop w = is_opening refl (λ f. contradiction cc)

pub ruleset kind_exits = (kind_block, kind_loop, kind_end, kind_inside)
