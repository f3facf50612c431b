-- From the step to the rules: whatever an instruction comes to, other than stuck, a rule says. One line or a few for each
-- instruction, by the values that lie on the stack.
use Prim.Native.Nat.{ℕ}
use mathlib.Core.Path.{◌≡◌, refl, ap}
use mathlib.Core.Bool.{Bool, true, false, cond}
use mathlib.Core.Option.{Option, none, some}
use mathlib.Core.List.{List, [], ◌∷◌}
use lib.ListN.{get_elem?, set}
use lib.Dec.{eqb}
use borrow.Author.Tests.{eqb-true, eqb-false}
use Rattle.scope.specs.Reading.{given}
use Rattle.scope.specs.Refusals.{trap_cast, trap_other_numeric}
use Rattle.scope.specs.Syntax.{i32, i64, f32, f64}
use Rattle.scope.specs.Numeric.{Numeric, numeric_of}
use Rattle.scope.specs.Arithmetic.{Deed, deed_of}
use Rattle.scope.specs.Instructions.{Op, unreachable, nop, return, drop_value, br, br_if, local_get, local_set, local_tee, i32_const, i64_const, f32_const, f64_const, numeric, ref_null, ref_is_null, ref_eq, ref_as_non_null, struct_new, struct_new_default, struct_get, struct_set, ref_test, ref_cast, br_on_cast, br_on_cast_fail, struct_new_desc, struct_new_default_desc, ref_get_desc, ref_cast_desc_eq, br_on_cast_desc_eq, br_on_cast_desc_eq_fail, block, loop, end, op}
use Rattle.scope.specs.Bodies.{Code}
use Rattle.scope.specs.Machine.{Value, number, null, object, Object, Store, Block, open_block, open_loop, Machine, Program, Outcome, goes, traps, stuck, truth, branch, with_operands, with_heap, with_object, with_field, on_taken, calculate, do_numeric, do_op, do_instr, step}
use Rattle.facts_runs.specs.OtherNumeric.{other_numeric}
use Rattle.facts_runs.proofs.OtherNumeric.{no_line}
use Rattle.facts_steps.specs.Places.{Stands, state}
use Rattle.facts_steps.specs.Making.{new, new_default, new_desc, new_default_desc}
use Rattle.facts_steps.specs.Trapping.{by_as_non_null, by_get, by_set, by_get_desc, by_new_desc, by_new_default_desc, by_cast_desc_eq, by_br_on_cast_desc_eq, by_br_on_cast_desc_eq_fail, by_cast, by_desc_eq, trap_41, trap_42, trap_43, trap_44, trap_46}
use Rattle.facts_steps.specs.Rules.{Does, does_nop, does_return, does_br, does_br_if_zero, does_br_if, does_drop, does_local_get, does_local_set, does_local_tee, does_i32_const, does_i64_const, does_f32_const, does_f64_const, does_one, does_two, does_ref_null, does_null_is_null, does_object_is_null, does_eq_nulls, does_eq_one_object, does_eq_two_objects, does_eq_null_first, does_eq_null_second, does_as_non_null, does_struct_get, does_struct_set, does_get_desc, does_test_yes, does_test_no, does_cast, does_cast_desc_eq, does_on_cast, does_not_on_cast, does_on_fail, does_not_on_fail, does_on_desc_eq, does_not_on_desc_eq, does_on_desc_eq_fail, does_not_on_desc_eq_fail, does_trap, Steps, steps_block, steps_loop, steps_block_end, steps_loop_end, steps_function_end, steps_op}
use Rattle.facts_steps.proofs.Places.{found_stands, found_changed}
use Rattle.facts_steps.proofs.Said.{Said, said, silent, also_said, on_some, on_test, on_kind}
use Rattle.facts_steps.proofs.Numbers.{Instructed, is_one, is_two, instructed}
use Rattle.facts_steps.proofs.Casts.{on_cast, on_very}
use Rattle.facts_steps.proofs.Branches.{finish-said, branch-said}
use Rattle.facts_steps.proofs.Making.{given-said, default_said}

-- a code has its kinds once
one_kinds : {o : Option Numeric} {a b : Numeric} → o ≡ some a → o ≡ some b → a ≡ b
one_kinds e f = cc

module _ (p : Program) (heap : Store) (locals : List (Option Value)) (blocks : List Block) (code : Code) where
  -- numbers

  calculated : (b : ℕ) (kinds : Numeric) → numeric_of b ≡ some kinds → {deed : Deed} → Instructed b deed → (vs : List Value)
      → Said (Does p heap locals blocks code vs (numeric b)) (calculate (state heap locals vs blocks code) kinds vs deed)
  calculated b kinds k (is_one o e) [] = silent
  calculated b kinds k (is_one {k = kind} {r} o e) (v ∷ vs) =
      rw (one_kinds k e) (on_kind kind v (λ a q. rw q (said (does_one o))))
  calculated b kinds k (is_two o e) [] = silent
  calculated b kinds k (is_two o e) (w ∷ []) = silent
  calculated b kinds k (is_two {k = kind} {r} o e) (w ∷ v ∷ vs) =
      rw (one_kinds k e) (on_kind kind w (λ c q. on_kind kind v (λ a t. rw (q, t) (said (does_two o)))))

  number-told : (vs : List Value) (b : ℕ) → Said (Does p heap locals blocks code vs (numeric b)) (do_numeric (state heap locals vs blocks code) vs b)
  unfolding do_numeric
  number-told vs b = go (deed_of b) refl
    where
      go : (o : Option Deed) → deed_of b ≡ o
          → Said (Does p heap locals blocks code vs (numeric b)) (given o (traps trap_other_numeric) (λ deed. given (numeric_of b) stuck (λ kinds. calculate (state heap locals vs blocks code) kinds vs deed)))
      go none d = said (does_trap (trap_46 (other_numeric (no_line b d))))
      go (some deed) d = on_some (numeric_of b) (λ kinds k. calculated b kinds k (instructed b deed d) vs)

  -- a struct's field

  get_told : (x i o : ℕ) (vs : List Value) → Said (Does p heap locals blocks code (object o ∷ vs) (struct_get x i)) (given (get_elem? heap o) stuck (λ it. given (get_elem? it.fields i) stuck (λ held. goes (state heap locals (held ∷ vs) blocks code))))
  get_told x i o vs =
      on_some (get_elem? heap o) (λ it e. on_some (get_elem? it.fields i) (λ held f. said (does_struct_get (found_stands heap o e) (found_stands it.fields i f))))

  set_told : (x i o : ℕ) (v : Value) (vs : List Value)
      → Said (Does p heap locals blocks code (v ∷ object o ∷ vs) (struct_set x i)) (given (get_elem? heap o) stuck (λ it. given (get_elem? it.fields i) stuck (λ old. goes (state (set heap o (with_field it i v)) locals vs blocks code))))
  set_told x i o v vs =
      on_some (get_elem? heap o) (λ it e.
      on_some (get_elem? it.fields i) (λ old f.
      said (does_struct_set (found_stands heap o e) (found_changed it.fields i v f) (found_changed heap o _ e))))

  -- an instruction inside its block

  pub op_told : (vs : List Value) (o : Op) → Said (Does p heap locals blocks code vs o) (do_op p (state heap locals vs blocks code) vs o)
  unfolding do_op
  op_told vs unreachable = said (does_trap trap_41)
  op_told vs nop = said does_nop
  op_told vs return = also_said (λ r f. does_return f) (finish-said p heap locals vs blocks code vs)
  op_told [] drop_value = silent
  op_told (v ∷ vs) drop_value = said does_drop
  op_told vs (br l) = also_said (λ r f. does_br f) (branch-said p heap locals vs blocks code l vs)
  op_told [] (br_if l) = silent
  op_told (number i32 n ∷ vs) (br_if l) = go (eqb n 0) refl
    where
      go : (t : Bool) → eqb n 0 ≡ t
          → Said (Does p heap locals blocks code (number i32 n ∷ vs) (br_if l)) (cond t (goes (state heap locals vs blocks code)) (branch p (state heap locals (number i32 n ∷ vs) blocks code) l vs))
      go true e = rw (eqb-true n 0 e) (said does_br_if_zero)
      go false e = also_said (λ r f. does_br_if (eqb-false n 0 e) f) (branch-said p heap locals (number i32 n ∷ vs) blocks code l vs)
  op_told (number i64 n ∷ vs) (br_if l) = silent
  op_told (number f32 n ∷ vs) (br_if l) = silent
  op_told (number f64 n ∷ vs) (br_if l) = silent
  op_told (null ∷ vs) (br_if l) = silent
  op_told (object o ∷ vs) (br_if l) = silent
  op_told vs (local_get x) =
      on_some (get_elem? locals x) (λ held e. on_some held (λ v f. said (does_local_get (found_stands locals x (rw f at e)))))
  op_told [] (local_set x) = silent
  op_told (v ∷ vs) (local_set x) = on_some (get_elem? locals x) (λ old e. said (does_local_set (found_changed locals x (some v) e)))
  op_told [] (local_tee x) = silent
  op_told (v ∷ vs) (local_tee x) = on_some (get_elem? locals x) (λ old e. said (does_local_tee (found_changed locals x (some v) e)))
  op_told vs (i32_const n) = said does_i32_const
  op_told vs (i64_const n) = said does_i64_const
  op_told vs (f32_const n) = said does_f32_const
  op_told vs (f64_const n) = said does_f64_const
  op_told vs (numeric b) = number-told vs b
  op_told vs (ref_null h) = said does_ref_null
  op_told [] ref_is_null = silent
  op_told (number k n ∷ vs) ref_is_null = silent
  op_told (null ∷ vs) ref_is_null = said does_null_is_null
  op_told (object o ∷ vs) ref_is_null = said does_object_is_null
  op_told [] ref_eq = silent
  op_told (v ∷ []) ref_eq = silent
  op_told (number k n ∷ w ∷ vs) ref_eq = silent
  op_told (null ∷ number k n ∷ vs) ref_eq = silent
  op_told (null ∷ null ∷ vs) ref_eq = said does_eq_nulls
  op_told (null ∷ object q ∷ vs) ref_eq = said does_eq_null_second
  op_told (object o ∷ number k n ∷ vs) ref_eq = silent
  op_told (object o ∷ null ∷ vs) ref_eq = said does_eq_null_first
  op_told (object o ∷ object q ∷ vs) ref_eq = go (eqb o q) refl
    where
      go : (t : Bool) → eqb o q ≡ t → Said (Does p heap locals blocks code (object o ∷ object q ∷ vs) ref_eq) (goes (state heap locals (truth t ∷ vs) blocks code))
      go true e = rw (eqb-true o q e) (said does_eq_one_object)
      go false e = said (does_eq_two_objects (eqb-false o q e))
  op_told [] ref_as_non_null = silent
  op_told (number k n ∷ vs) ref_as_non_null = silent
  op_told (null ∷ vs) ref_as_non_null = said (does_trap (trap_42 by_as_non_null))
  op_told (object o ∷ vs) ref_as_non_null = said does_as_non_null
  op_told vs (struct_new x) = given-said p heap locals blocks code vs (struct_new x) x none vs (λ fs fields below. new)
  op_told vs (struct_new_default x) = default_said p heap locals blocks code vs (struct_new_default x) x none vs (λ fs fields. new_default)
  op_told [] (struct_get x i) = silent
  op_told (number k n ∷ vs) (struct_get x i) = silent
  op_told (null ∷ vs) (struct_get x i) = said (does_trap (trap_42 by_get))
  op_told (object o ∷ vs) (struct_get x i) = get_told x i o vs
  op_told [] (struct_set x i) = silent
  op_told (v ∷ []) (struct_set x i) = silent
  op_told (v ∷ number k n ∷ vs) (struct_set x i) = silent
  op_told (v ∷ null ∷ vs) (struct_set x i) = said (does_trap (trap_42 by_set))
  op_told (v ∷ object o ∷ vs) (struct_set x i) = set_told x i o v vs
  op_told [] (ref_test n h) = silent
  op_told (v ∷ vs) (ref_test n h) =
      on_cast p.types heap n h v (λ b. goes (state heap locals (truth b ∷ vs) blocks code)) (λ y. said (does_test_yes y)) (λ f. said (does_test_no f))
  op_told [] (ref_cast n h) = silent
  op_told (v ∷ vs) (ref_cast n h) =
      on_cast p.types heap n h v (λ b. cond b (goes (state heap locals (v ∷ vs) blocks code)) (traps trap_cast)) (λ y. said (does_cast y)) (λ f. said (does_trap (trap_44 (by_cast f))))
  op_told [] (br_on_cast k) = silent
  op_told (v ∷ vs) (br_on_cast k) =
      on_cast p.types heap k.target_null k.target v
      (λ b. cond b (branch p (state heap locals (v ∷ vs) blocks code) k.label (v ∷ vs)) (goes (state heap locals (v ∷ vs) blocks code)))
      (λ y. also_said (λ r f. does_on_cast y f) (branch-said p heap locals (v ∷ vs) blocks code k.label (v ∷ vs)))
      (λ f. said (does_not_on_cast f))
  op_told [] (br_on_cast_fail k) = silent
  op_told (v ∷ vs) (br_on_cast_fail k) =
      on_cast p.types heap k.target_null k.target v
      (λ b. cond b (goes (state heap locals (v ∷ vs) blocks code)) (branch p (state heap locals (v ∷ vs) blocks code) k.label (v ∷ vs)))
      (λ y. said (does_not_on_fail y))
      (λ f. also_said (λ r g. does_on_fail f g) (branch-said p heap locals (v ∷ vs) blocks code k.label (v ∷ vs)))
  op_told [] (struct_new_desc x) = silent
  op_told (number k n ∷ vs) (struct_new_desc x) = silent
  op_told (null ∷ vs) (struct_new_desc x) = said (does_trap (trap_43 by_new_desc))
  op_told (object d ∷ vs) (struct_new_desc x) =
      given-said p heap locals blocks code (object d ∷ vs) (struct_new_desc x) x (some d) vs (λ fs fields below. new_desc)
  op_told [] (struct_new_default_desc x) = silent
  op_told (number k n ∷ vs) (struct_new_default_desc x) = silent
  op_told (null ∷ vs) (struct_new_default_desc x) = said (does_trap (trap_43 by_new_default_desc))
  op_told (object d ∷ vs) (struct_new_default_desc x) =
      default_said p heap locals blocks code (object d ∷ vs) (struct_new_default_desc x) x (some d) vs (λ fs fields. new_default_desc)
  op_told [] (ref_get_desc x) = silent
  op_told (number k n ∷ vs) (ref_get_desc x) = silent
  op_told (null ∷ vs) (ref_get_desc x) = said (does_trap (trap_42 by_get_desc))
  op_told (object o ∷ vs) (ref_get_desc x) =
      on_some (get_elem? heap o) (λ it e. on_some it.descriptor (λ d f. said (does_get_desc (found_stands heap o e) f)))
  op_told [] (ref_cast_desc_eq n h) = silent
  op_told (number k m ∷ vs) (ref_cast_desc_eq n h) = silent
  op_told (null ∷ vs) (ref_cast_desc_eq n h) = said (does_trap (trap_43 by_cast_desc_eq))
  op_told (object d ∷ []) (ref_cast_desc_eq n h) = silent
  op_told (object d ∷ v ∷ vs) (ref_cast_desc_eq n h) =
      on_very heap n d v (λ b. cond b (goes (state heap locals (v ∷ vs) blocks code)) (traps trap_cast)) (λ y. said (does_cast_desc_eq y)) (λ f. said (does_trap (trap_44 (by_desc_eq f))))
  op_told [] (br_on_cast_desc_eq k) = silent
  op_told (number j m ∷ vs) (br_on_cast_desc_eq k) = silent
  op_told (null ∷ vs) (br_on_cast_desc_eq k) = said (does_trap (trap_43 by_br_on_cast_desc_eq))
  op_told (object d ∷ []) (br_on_cast_desc_eq k) = silent
  op_told (object d ∷ v ∷ vs) (br_on_cast_desc_eq k) =
      on_very heap k.target_null d v
      (λ b. cond b (branch p (state heap locals (object d ∷ v ∷ vs) blocks code) k.label (v ∷ vs)) (goes (state heap locals (v ∷ vs) blocks code)))
      (λ y. also_said (λ r f. does_on_desc_eq y f) (branch-said p heap locals (object d ∷ v ∷ vs) blocks code k.label (v ∷ vs)))
      (λ f. said (does_not_on_desc_eq f))
  op_told [] (br_on_cast_desc_eq_fail k) = silent
  op_told (number j m ∷ vs) (br_on_cast_desc_eq_fail k) = silent
  op_told (null ∷ vs) (br_on_cast_desc_eq_fail k) = said (does_trap (trap_43 by_br_on_cast_desc_eq_fail))
  op_told (object d ∷ []) (br_on_cast_desc_eq_fail k) = silent
  op_told (object d ∷ v ∷ vs) (br_on_cast_desc_eq_fail k) =
      on_very heap k.target_null d v
      (λ b. cond b (goes (state heap locals (v ∷ vs) blocks code)) (branch p (state heap locals (object d ∷ v ∷ vs) blocks code) k.label (v ∷ vs)))
      (λ y. said (does_not_on_desc_eq_fail y))
      (λ f. also_said (λ r g. does_on_desc_eq_fail f g) (branch-said p heap locals (object d ∷ v ∷ vs) blocks code k.label (v ∷ vs)))

-- a step

pub step-told : (p : Program) (m : Machine) → Said (Steps p m.heap m.locals m.operands m.blocks m.code) (step p m)
unfolding step do_instr
step-told p m = go m.blocks m.code
  where
    go : (blocks : List Block) (code : Code) → Said (Steps p m.heap m.locals m.operands blocks code) (step p (state m.heap m.locals m.operands blocks code))
    go blocks [] = silent
    go blocks ((at, block rs) ∷ code) = said steps_block
    go blocks ((at, loop rs) ∷ code) = said steps_loop
    go [] ((at, end) ∷ code) = also_said (λ r f. steps_function_end f) (finish-said p m.heap m.locals m.operands [] code m.operands)
    go (open_block from n below ∷ blocks) ((at, end) ∷ code) = said steps_block_end
    go (open_loop from below again ∷ blocks) ((at, end) ∷ code) = said steps_loop_end
    go blocks ((at, op o) ∷ code) = also_said (λ r f. steps_op f) (op_told p m.heap m.locals blocks code m.operands o)
