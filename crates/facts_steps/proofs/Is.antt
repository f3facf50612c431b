-- From the rules to the step: what a rule says, the machine computes. One line for each rule.
use Prim.Native.Nat.{ℕ}
use mathlib.Core.Path.{◌≡◌, refl, ◌∙◌}
use mathlib.Core.Bool.{true, cond}
use mathlib.Core.Option.{Option}
use mathlib.Core.List.{List, [], ◌∷◌}
use borrow.Author.Tests.{ne_eqb, eq-eqb}
use Rattle.scope.specs.Refusals.{trap_null, trap_null_descriptor, trap_cast}
use Rattle.scope.specs.Syntax.{Number, i32}
use Rattle.scope.specs.Order.{same_number, number_code}
use Rattle.scope.specs.Instructions.{Op}
use Rattle.scope.specs.Bodies.{Code}
use Rattle.scope.specs.Machine.{Value, number, object, Store, Block, Machine, Program, Outcome, goes, traps, truth, branch, do_numeric, do_op, do_instr, step}
use Rattle.facts_runs.specs.OtherNumeric.{other_numeric}
use Rattle.facts_runs.proofs.OtherNumeric.{not_listed}
use Rattle.facts_steps.specs.Places.{state}
use Rattle.facts_steps.specs.Trapping.{NullUsed, by_as_non_null, by_get, by_set, by_get_desc, NullDescriptor, by_new_desc, by_new_default_desc, by_cast_desc_eq, by_br_on_cast_desc_eq, by_br_on_cast_desc_eq_fail, by_cast, by_desc_eq, no_room_for, Traps, trap_41, trap_42, trap_43, trap_44, trap_45, trap_46}
use Rattle.facts_steps.specs.Rules.{Does, does_nop, does_return, does_br, does_br_if_zero, does_br_if, does_drop, does_local_get, does_local_set, does_local_tee, does_i32_const, does_i64_const, does_f32_const, does_f64_const, does_one, does_two, does_ref_null, does_null_is_null, does_object_is_null, does_eq_nulls, does_eq_one_object, does_eq_two_objects, does_eq_null_first, does_eq_null_second, does_as_non_null, does_make, does_struct_get, does_struct_set, does_get_desc, does_test_yes, does_test_no, does_cast, does_cast_desc_eq, does_on_cast, does_not_on_cast, does_on_fail, does_not_on_fail, does_on_desc_eq, does_not_on_desc_eq, does_on_desc_eq_fail, does_not_on_desc_eq_fail, does_trap, Steps, steps_block, steps_loop, steps_block_end, steps_loop_end, steps_function_end, steps_op}
use Rattle.facts_steps.proofs.Places.{stands_found, changed_set, changed_before}
use Rattle.facts_steps.proofs.Numbers.{one_line, two_line}
use Rattle.facts_steps.proofs.Casts.{passes_yes, fails_no, described-yes, not-described-no}
use Rattle.facts_steps.proofs.Branches.{finish_is, branch_is}
use Rattle.facts_steps.proofs.Making.{made_is, full_is}

same_kind : (k : Number) → same_number k k ≡ true
same_kind k = eq-eqb (number_code k) (number_code k) refl

module _ (p : Program) (heap : Store) (locals : List (Option Value)) (blocks : List Block) (code : Code) where
  null_used_is : {vs : List Value} {o : Op} → NullUsed vs o → do_op p (state heap locals vs blocks code) vs o ≡ traps trap_null
  unfolding do_op
  null_used_is by_as_non_null = refl
  null_used_is by_get = refl
  null_used_is by_set = refl
  null_used_is by_get_desc = refl

  null_descriptor_is : {vs : List Value} {o : Op} → NullDescriptor vs o → do_op p (state heap locals vs blocks code) vs o ≡ traps trap_null_descriptor
  unfolding do_op
  null_descriptor_is by_new_desc = refl
  null_descriptor_is by_new_default_desc = refl
  null_descriptor_is by_cast_desc_eq = refl
  null_descriptor_is by_br_on_cast_desc_eq = refl
  null_descriptor_is by_br_on_cast_desc_eq_fail = refl

  pub trap_is : {vs : List Value} {o : Op} {n : ℕ} → Traps p.types heap vs o n → do_op p (state heap locals vs blocks code) vs o ≡ traps n
  unfolding do_op do_numeric
  trap_is trap_41 = refl
  trap_is (trap_42 u) = null_used_is u
  trap_is (trap_43 u) = null_descriptor_is u
  trap_is (trap_44 (by_cast {v = v} {vs = vs} f)) = fails_no (λ b. cond b (goes (state heap locals (v ∷ vs) blocks code)) (traps trap_cast)) f
  trap_is (trap_44 (by_desc_eq {v = v} {vs = vs} f)) = not-described-no (λ b. cond b (goes (state heap locals (v ∷ vs) blocks code)) (traps trap_cast)) f
  trap_is (trap_45 (no_room_for makes full)) = full_is p heap locals blocks code makes full
  trap_is (trap_46 (other_numeric {b = b} other)) = rw (not_listed b other)

  pub op_is : {vs : List Value} {o : Op} {r : Outcome} → Does p heap locals blocks code vs o r → do_op p (state heap locals vs blocks code) vs o ≡ r
  unfolding do_op do_numeric
  op_is does_nop = refl
  op_is (does_return {vs = vs} f) = finish_is p heap locals vs blocks code f
  op_is (does_br {l = l} {vs = vs} b) = branch_is p heap locals vs blocks code l vs b
  op_is does_br_if_zero = refl
  op_is (does_br_if {l = l} {n = n} {vs = vs} some b) = rw (ne_eqb n 0 some) (branch_is p heap locals (number i32 n ∷ vs) blocks code l vs b)
  op_is does_drop = refl
  op_is (does_local_get s) = rw (stands_found s)
  op_is (does_local_set c) = rw ((changed_before c).there, changed_set c)
  op_is (does_local_tee c) = rw ((changed_before c).there, changed_set c)
  op_is does_i32_const = refl
  op_is does_i64_const = refl
  op_is does_f32_const = refl
  op_is does_f64_const = refl
  op_is (does_one {k = k} o) = let (d, e) = one_line o in rw (d, e, same_kind k)
  op_is (does_two {k = k} o) = let (d, e) = two_line o in rw (d, e, same_kind k)
  op_is does_ref_null = refl
  op_is does_null_is_null = refl
  op_is does_object_is_null = refl
  op_is does_eq_nulls = refl
  op_is (does_eq_one_object {o = o}) = rw (eq-eqb o o refl)
  op_is (does_eq_two_objects {o = o} {q = q} apart) = rw (ne_eqb o q apart)
  op_is does_eq_null_first = refl
  op_is does_eq_null_second = refl
  op_is does_as_non_null = refl
  op_is (does_make makes roomy) = made_is p heap locals blocks code makes roomy
  op_is (does_struct_get s f) = rw (stands_found s, stands_found f)
  op_is (does_struct_set s c h) = rw (stands_found s, (changed_before c).there, changed_set c, changed_set h)
  op_is (does_get_desc s d) = rw (stands_found s, d)
  op_is (does_test_yes {vs = vs} y) = passes_yes (λ b. goes (state heap locals (truth b ∷ vs) blocks code)) y
  op_is (does_test_no {vs = vs} f) = fails_no (λ b. goes (state heap locals (truth b ∷ vs) blocks code)) f
  op_is (does_cast {v = v} {vs = vs} y) = passes_yes (λ b. cond b (goes (state heap locals (v ∷ vs) blocks code)) (traps trap_cast)) y
  op_is (does_cast_desc_eq {v = v} {vs = vs} y) = described-yes (λ b. cond b (goes (state heap locals (v ∷ vs) blocks code)) (traps trap_cast)) y
  op_is (does_on_cast {k = k} {v = v} {vs = vs} y b) =
      passes_yes (λ t. cond t (branch p (state heap locals (v ∷ vs) blocks code) k.label (v ∷ vs)) (goes (state heap locals (v ∷ vs) blocks code))) y
      ∙ branch_is p heap locals (v ∷ vs) blocks code k.label (v ∷ vs) b
  op_is (does_not_on_cast {k = k} {v = v} {vs = vs} f) =
      fails_no (λ t. cond t (branch p (state heap locals (v ∷ vs) blocks code) k.label (v ∷ vs)) (goes (state heap locals (v ∷ vs) blocks code))) f
  op_is (does_on_fail {k = k} {v = v} {vs = vs} f b) =
      fails_no (λ t. cond t (goes (state heap locals (v ∷ vs) blocks code)) (branch p (state heap locals (v ∷ vs) blocks code) k.label (v ∷ vs))) f
      ∙ branch_is p heap locals (v ∷ vs) blocks code k.label (v ∷ vs) b
  op_is (does_not_on_fail {k = k} {v = v} {vs = vs} y) =
      passes_yes (λ t. cond t (goes (state heap locals (v ∷ vs) blocks code)) (branch p (state heap locals (v ∷ vs) blocks code) k.label (v ∷ vs))) y
  op_is (does_on_desc_eq {k = k} {d = d} {v = v} {vs = vs} y b) =
      described-yes (λ t. cond t (branch p (state heap locals (object d ∷ v ∷ vs) blocks code) k.label (v ∷ vs)) (goes (state heap locals (v ∷ vs) blocks code))) y
      ∙ branch_is p heap locals (object d ∷ v ∷ vs) blocks code k.label (v ∷ vs) b
  op_is (does_not_on_desc_eq {k = k} {d = d} {v = v} {vs = vs} f) =
      not-described-no (λ t. cond t (branch p (state heap locals (object d ∷ v ∷ vs) blocks code) k.label (v ∷ vs)) (goes (state heap locals (v ∷ vs) blocks code))) f
  op_is (does_on_desc_eq_fail {k = k} {d = d} {v = v} {vs = vs} f b) =
      not-described-no (λ t. cond t (goes (state heap locals (v ∷ vs) blocks code)) (branch p (state heap locals (object d ∷ v ∷ vs) blocks code) k.label (v ∷ vs))) f
      ∙ branch_is p heap locals (object d ∷ v ∷ vs) blocks code k.label (v ∷ vs) b
  op_is (does_not_on_desc_eq_fail {k = k} {d = d} {v = v} {vs = vs} y) =
      described-yes (λ t. cond t (goes (state heap locals (v ∷ vs) blocks code)) (branch p (state heap locals (object d ∷ v ∷ vs) blocks code) k.label (v ∷ vs))) y
  op_is (does_trap t) = trap_is t

-- a step

pub step_is : (p : Program) (m : Machine) {r : Outcome} → Steps p m.heap m.locals m.operands m.blocks m.code r → step p m ≡ r
unfolding step do_instr
step_is p m s = go s
  where
    go : {blocks : List Block} {code : Code} {r : Outcome} → Steps p m.heap m.locals m.operands blocks code r → step p (state m.heap m.locals m.operands blocks code) ≡ r
    go steps_block = refl
    go steps_loop = refl
    go steps_block_end = refl
    go steps_loop_end = refl
    go (steps_function_end {code = code} f) = finish_is p m.heap m.locals m.operands [] code f
    go (steps_op {blocks = blocks} {code = code} d) = op_is p m.heap m.locals blocks code d
