-- What is kept of an instruction that a rule allows is the instruction itself: the rule asks first whether each type that it
-- names is in reach, and such a type reads back as itself. Of a block's results there is at most one, and it is kept.
use Prim.Native.Nat.{ℕ, ◌≤◌}
use native.Mathlib.Omega.{arith}
use mathlib.Core.Path.{◌≡◌, refl, ap}
use mathlib.Core.List.{List, [], ◌∷◌, map, append-nil}
use lib.ListN.{length}
use Rattle.scope.specs.Sizes.{most_types}
use Rattle.scope.specs.Refusals.{out_of_reach}
use Rattle.scope.specs.Reading.{got}
use Rattle.scope.specs.Lists.{joined}
use Rattle.scope.specs.Syntax.{Val}
use Rattle.scope.specs.TypeRules.{val_names}
use Rattle.scope.specs.Instructions.{Op, unreachable, nop, return, drop_value, br, br_if, local_get, local_set, local_tee, i32_const, i64_const, f32_const, f64_const, numeric, ref_null, ref_is_null, ref_eq, ref_as_non_null, struct_new, struct_new_default, struct_get, struct_set, ref_test, ref_cast, br_on_cast, br_on_cast_fail, struct_new_desc, struct_new_default_desc, ref_get_desc, ref_cast_desc_eq, br_on_cast_desc_eq, br_on_cast_desc_eq_fail, Instr, block, loop, op, instr_at}
use Rattle.scope.specs.BodyRules.{Context, Scope, Ruled, reached, plan_of}
use Rattle.scope.specs.Bodies.{State, scope_of, Code, Body, judge_instr}
use Rattle.scope.specs.Machine.{Machine}
use Rattle.scope.proofs.Telling.{Allows, after_test, after-and}
use Rattle.scope.proofs.Standing.{Accepts, last, next}
use Rattle.scope.proofs.Soundness.{context_for, TypedHere, Runs}
use Rattle.type_table.proofs.KeptReach.{below, Keeps, number_keeps}
use Rattle.body_immediates.specs.Coding.{result_code, operation_of, instruction_of}
use Rattle.body_decoded.specs.Decoded.{block_results, instr_of}
use Rattle.body_decoded.proofs.Short.{Short, short_block, short_loop, short_end, short_op, read_short}
use Rattle.body_decoded.proofs.Kept.{one_result, cast_names, heap_read, val_read, cast_read}
use Rattle.run_sound.proofs.Astraying.{accepted_here}

-- whatever is allowed, this holds anyhow
anyhow : {A P : Type 0} {r : Ruled A} → P → Allows (λ x. P) r
anyhow p = record { tells = λ x e. p }

module _ (c : Context) (few : c.count ≤ most_types) where
  bound : c.count ≤ 4_095
  bound = omega arith

  -- what is allowed after the test of reach names only types that read back
  in_reach :
      {A B : Type 0} {names : A → List ℕ} {back : A → A} → Keeps c.count names back → {C : Type 0} (make : A → C) (a : A) (more : Ruled B)
      → Allows (λ x. make (back a) ≡ make a) (reached c (names a) more)
  in_reach {names = names} keeps make a more = after_test (below c.count (names a)) out_of_reach (λ e. anyhow (ap make (keeps.same a e)))

  op_back : (here : Scope) (o : Op) → Allows (λ p. instr_of (operation_of o) ≡ op o) (plan_of c here o)
  unfolding instr_of operation_of plan_of cast_names
  op_back here unreachable = anyhow refl
  op_back here nop = anyhow refl
  op_back here return = anyhow refl
  op_back here drop_value = anyhow refl
  op_back here (br l) = anyhow refl
  op_back here (br_if l) = anyhow refl
  op_back here (local_get x) = anyhow refl
  op_back here (local_set x) = anyhow refl
  op_back here (local_tee x) = anyhow refl
  op_back here (i32_const n) = anyhow refl
  op_back here (i64_const n) = anyhow refl
  op_back here (f32_const n) = anyhow refl
  op_back here (f64_const n) = anyhow refl
  op_back here (numeric b) = anyhow refl
  op_back here (ref_null h) = in_reach (heap_read bound) (λ k. op (ref_null k)) h _
  op_back here ref_is_null = anyhow refl
  op_back here ref_eq = anyhow refl
  op_back here ref_as_non_null = anyhow refl
  op_back here (struct_new x) = in_reach (number_keeps bound) (λ y. op (struct_new y)) x _
  op_back here (struct_new_default x) = in_reach (number_keeps bound) (λ y. op (struct_new_default y)) x _
  op_back here (struct_get x i) = in_reach (number_keeps bound) (λ y. op (struct_get y i)) x _
  op_back here (struct_set x i) = in_reach (number_keeps bound) (λ y. op (struct_set y i)) x _
  op_back here (ref_test n h) = in_reach (heap_read bound) (λ k. op (ref_test n k)) h _
  op_back here (ref_cast n h) = in_reach (heap_read bound) (λ k. op (ref_cast n k)) h _
  op_back here (br_on_cast k) = in_reach (cast_read bound) (λ j. op (br_on_cast j)) k _
  op_back here (br_on_cast_fail k) = in_reach (cast_read bound) (λ j. op (br_on_cast_fail j)) k _
  op_back here (struct_new_desc x) = in_reach (number_keeps bound) (λ y. op (struct_new_desc y)) x _
  op_back here (struct_new_default_desc x) = in_reach (number_keeps bound) (λ y. op (struct_new_default_desc y)) x _
  op_back here (ref_get_desc x) = in_reach (number_keeps bound) (λ y. op (ref_get_desc y)) x _
  op_back here (ref_cast_desc_eq n h) = in_reach (heap_read bound) (λ k. op (ref_cast_desc_eq n k)) h _
  op_back here (br_on_cast_desc_eq k) = in_reach (cast_read bound) (λ j. op (br_on_cast_desc_eq j)) k _
  op_back here (br_on_cast_desc_eq_fail k) = in_reach (cast_read bound) (λ j. op (br_on_cast_desc_eq_fail j)) k _

  results_back :
      {B C : Type 0} (make : List Val → C) (rs : List Val) → length rs ≤ 1 → (more : Ruled B)
      → Allows (λ x. make (block_results (result_code rs)) ≡ make rs) (reached c (joined (map val_names rs)) more)
  results_back make [] h more = anyhow refl
  results_back make (v ∷ []) h more =
      rw (one_result v) (simp append-nil (in_reach (val_read bound) (λ w. make (w ∷ [])) v more))
  results_back make (v ∷ w ∷ vs) h more = absurd (omega arith)

  instr_back : (st : State) {i : Instr} → Short i → Allows (λ n. instr_of (instruction_of i) ≡ i) (judge_instr c st i)
  unfolding instr_of instruction_of judge_instr
  instr_back st (short_block {rs = rs} h) = results_back block rs h _
  instr_back st (short_loop {rs = rs} h) = results_back loop rs h _
  instr_back st short_end = anyhow refl
  instr_back st (short_op {o = o}) = after-and (plan_of c (scope_of c st) o) (op_back (scope_of c st) o) (λ p same. anyhow same)

  pub accepted_back : {st : State} {at : ℕ} {i : Instr} {code : Code} → Accepts c st ((at, i) ∷ code) → Short i → instr_of (instruction_of i) ≡ i
  accepted_back {st} (last e) short = (instr_back st short).tells _ e
  accepted_back {st} (next e more) short = (instr_back st short).tells _ e

pub read_back :
    {library section s : List ℕ} {x : ℕ} {b : Body} {m : Machine} {at stop : ℕ} {i : Instr} {code : Code} → Runs library section s x b → length b.types ≤ most_types
    → TypedHere b m → m.code ≡ (at, i) ∷ code → instr_at s at ≡ got i stop → instr_of (instruction_of i) ≡ i
read_back {s} {b} {at} runs few here e read = accepted_back (context_for b) few (accepted_here runs here e) (read_short s at read)
