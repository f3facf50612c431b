-- Every instruction inside a block: the plan that its rule allows is one that the machine can act on. For each, the tests
-- of its rule in order, then its lemma of proofs/Plain.antt, proofs/Calculating.antt, proofs/Structs.antt or
-- proofs/CastSteps.antt.
use Prim.Native.Nat.{ℕ, ◌<◌}
use mathlib.Core.Path.{◌≡◌, refl}
use mathlib.Core.Bool.{Bool, true, false, false≢true}
use mathlib.Core.Option.{Option, none, some}
use mathlib.Core.List.{List, [], ◌∷◌, ◌++◌}
use lib.ListN.{length, get_elem?, get_or}
use lib.Dec.{ltb}
use borrow.Author.Tests.{ltb-true}
use Rattle.scope.specs.Refusals.{not_listed, out_of_reach, absent, not_set, bad_struct, field_fixed, bad_branch, no_default}
use Rattle.scope.specs.Lists.{every, is_none}
use Rattle.scope.specs.Syntax.{i32, i64, f32, f64, types_of}
use Rattle.scope.specs.Order.{val_below}
use Rattle.scope.specs.TypeRules.{heap_names}
use Rattle.scope.specs.Numeric.{numeric_of}
use Rattle.scope.specs.Instructions.{Op, unreachable, nop, return, drop_value, br, br_if, local_get, local_set, local_tee, i32_const, i64_const, f32_const, f64_const, numeric, ref_null, ref_is_null, ref_eq, ref_as_non_null, struct_new, struct_new_default, struct_get, struct_set, ref_test, ref_cast, br_on_cast, br_on_cast_fail, struct_new_desc, struct_new_default_desc, ref_get_desc, ref_cast_desc_eq, br_on_cast_desc_eq, br_on_cast_desc_eq_fail}
use Rattle.scope.specs.BodyRules.{Plan, plan_of, fields_of, holds_of, has_default, one_hierarchy, descriptor_for, last_of, target_of, rest_of}
use Rattle.scope.specs.Bodies.{Operand, State, scope_of, after_plan, put, Body, start_state}
use Rattle.scope.specs.Machine.{Value, Machine, do_op}
use Rattle.scope.proofs.Truths.{from_both}
use Rattle.scope.proofs.Accepted.{Kept}
use Rattle.scope.proofs.Telling.{Allows, this, after_test, past_test, after-need}
use Rattle.scope.proofs.Standing.{Accepts}
use Rattle.scope.proofs.Plain.{Does, On, labels_of, skips, returns, drops, gets, sets_local, tees_local, numbers, nulls, asks_null, compares, refuses_null, branches_always, branches_if}
use Rattle.scope.proofs.Calculating.{calculates}
use Rattle.scope.proofs.Structs.{news, news_default, news_desc, news_default_desc, reads, writes, describes}
use Rattle.scope.proofs.CastSteps.{tests, casts, casts_desc, branches_cast, branches_cast_fail, branches_desc, branches_desc_fail}
use Rattle.scope.proofs.Soundness.{Stands, context_for, Typed, is_trap, is_unreachable}

-- the machine can act on a plan: whatever lies on the stack as the plan wants it
pub record Acts (b : Body) (st : State) (m : Machine) (o : Op) (plan : Plan) : Type 0 where
  pub acts :
      {taken left : List Operand} {vs below : List Value}
      → On b m plan.wants taken left vs below → Stands b (after_plan (context_for b) st plan (record { taken = taken; left = left })) m.code → Does b m vs o

reach_one : (x n : ℕ) → every (λ y. ltb y n) (x ∷ []) ≡ true → x < n
reach_one x n e = ltb-true x n (from_both (ltb x n) true e).0

is_none_lem : {A : Type 0} (o : Option A) → is_none o ≡ true → o ≡ none
is_none_lem none e = refl
is_none_lem (some x) e = absurd (false≢true e)

-- every number is in reach
abbrev in_reach : Body → List ℕ → Bool
in_reach b xs = every (λ x. ltb x (length b.types)) xs

module _ {b : Body} (kept : Kept (types_of b.types)) (accepts : Accepts (context_for b) (start_state b.function b.locals) b.code)
    {st : State} (m : Machine) (typed : Typed b st m) (alive : st.dead ≡ false) where
  pub acting : (o : Op) → Allows (Acts b st m o) (plan_of (context_for b) (scope_of (context_for b) st) o)
  unfolding plan_of put do_op
  acting unreachable = this (record { acts = λ takes stands. is_trap is_unreachable })
  acting nop = this (record { acts = skips m typed alive })
  acting return = this (record { acts = λ takes stands. returns m typed alive takes })
  acting drop_value = this (record { acts = drops m typed alive })
  acting (br l) =
      after-need (get_elem? (labels_of b st) l) absent (λ rs label.
      this (record { acts = λ takes stands. branches_always m typed alive accepts l rs label takes stands refl }))
  acting (br_if l) =
      after-need (get_elem? (labels_of b st) l) absent (λ rs label. this (record { acts = branches_if m typed alive accepts l rs label }))
  acting (local_get x) =
      after-need (get_elem? (context_for b).locals x) absent (λ t is.
      after_test (get_or st.is_set x false) not_set (λ set. this (record { acts = gets m typed alive x is set })))
  acting (local_set x) =
      after-need (get_elem? (context_for b).locals x) absent (λ t is. this (record { acts = sets_local m typed alive x is }))
  acting (local_tee x) =
      after-need (get_elem? (context_for b).locals x) absent (λ t is. this (record { acts = tees_local m typed alive x is }))
  acting (i32_const n) = this (record { acts = numbers m typed alive i32 n })
  acting (i64_const n) = this (record { acts = numbers m typed alive i64 n })
  acting (f32_const n) = this (record { acts = numbers m typed alive f32 n })
  acting (f64_const n) = this (record { acts = numbers m typed alive f64 n })
  acting (numeric code) =
      after-need (numeric_of code) not_listed (λ kinds is. this (record { acts = calculates m typed alive code kinds is }))
  acting (ref_null h) = after_test (in_reach b (heap_names h)) out_of_reach (λ reach. this (record { acts = nulls m typed alive h }))
  acting ref_is_null = this (record { acts = asks_null m typed alive })
  acting ref_eq = this (record { acts = compares m typed alive })
  acting ref_as_non_null = this (record { acts = refuses_null m typed alive })
  acting (struct_new x) =
      after_test (in_reach b (x ∷ [])) out_of_reach (λ reach.
      after-need (fields_of (types_of b.types x).form) bad_struct (λ fs declared.
      after_test (is_none (types_of b.types x).descriptor) bad_struct (λ bare.
      this (record { acts = news m typed alive x (reach_one x _ reach) declared (is_none_lem _ bare) }))))
  acting (struct_new_default x) =
      after_test (in_reach b (x ∷ [])) out_of_reach (λ reach.
      after-need (fields_of (types_of b.types x).form) bad_struct (λ fs declared.
      after_test (is_none (types_of b.types x).descriptor) bad_struct (λ bare.
      after_test (every has_default (holds_of fs)) no_default (λ have.
      this (record { acts = news_default m typed alive x (reach_one x _ reach) declared (is_none_lem _ bare) have })))))
  acting (struct_get x i) =
      after_test (in_reach b (x ∷ [])) out_of_reach (λ reach.
      after-need (fields_of (types_of b.types x).form) bad_struct (λ fs declared.
      after-need (get_elem? fs i) bad_struct (λ f place.
      this (record { acts = reads m typed alive kept x i declared place }))))
  acting (struct_set x i) =
      after_test (in_reach b (x ∷ [])) out_of_reach (λ reach.
      after-need (fields_of (types_of b.types x).form) bad_struct (λ fs declared.
      after-need (get_elem? fs i) bad_struct (λ f place.
      after_test f.mutable field_fixed (λ mutable.
      this (record { acts = writes m typed alive kept x i declared place mutable })))))
  acting (ref_test n h) = after_test (in_reach b (heap_names h)) out_of_reach (λ reach. this (record { acts = tests m typed alive n h }))
  acting (ref_cast n h) = after_test (in_reach b (heap_names h)) out_of_reach (λ reach. this (record { acts = casts m typed alive n h }))
  acting (br_on_cast k) =
      after_test (in_reach b (heap_names k.source ++ heap_names k.target)) out_of_reach (λ reach.
      after-need (get_elem? (labels_of b st) k.label) absent (λ rs label.
      past_test (one_hierarchy (types_of b.types) k.source k.target) bad_branch (
      after-need (last_of rs) bad_branch (λ split is.
      after_test (val_below (types_of b.types) (target_of k) split.1) bad_branch (λ carried.
      this (record { acts = branches_cast m typed alive kept accepts k rs label is carried }))))))
  acting (br_on_cast_fail k) =
      after_test (in_reach b (heap_names k.source ++ heap_names k.target)) out_of_reach (λ reach.
      after-need (get_elem? (labels_of b st) k.label) absent (λ rs label.
      past_test (one_hierarchy (types_of b.types) k.source k.target) bad_branch (
      after-need (last_of rs) bad_branch (λ split is.
      after_test (val_below (types_of b.types) (rest_of k) split.1) bad_branch (λ carried.
      this (record { acts = branches_cast_fail m typed alive kept accepts k rs label is carried }))))))
  acting (struct_new_desc x) =
      after_test (in_reach b (x ∷ [])) out_of_reach (λ reach.
      after-need (fields_of (types_of b.types x).form) bad_struct (λ fs declared.
      after-need (types_of b.types x).descriptor bad_struct (λ y described.
      this (record { acts = news_desc m typed alive x (reach_one x _ reach) declared described }))))
  acting (struct_new_default_desc x) =
      after_test (in_reach b (x ∷ [])) out_of_reach (λ reach.
      after-need (fields_of (types_of b.types x).form) bad_struct (λ fs declared.
      after-need (types_of b.types x).descriptor bad_struct (λ y described.
      after_test (every has_default (holds_of fs)) no_default (λ have.
      this (record { acts = news_default_desc m typed alive x (reach_one x _ reach) declared described have })))))
  acting (ref_get_desc x) =
      after_test (in_reach b (x ∷ [])) out_of_reach (λ reach.
      after-need (types_of b.types x).descriptor bad_struct (λ y described.
      this (record { acts = describes m typed alive kept x described })))
  acting (ref_cast_desc_eq n h) =
      after_test (in_reach b (heap_names h)) out_of_reach (λ reach.
      after-need (descriptor_for (types_of b.types) h) bad_struct (λ d asked.
      this (record { acts = casts_desc m typed alive n h kept asked })))
  acting (br_on_cast_desc_eq k) =
      after_test (in_reach b (heap_names k.source ++ heap_names k.target)) out_of_reach (λ reach.
      after-need (get_elem? (labels_of b st) k.label) absent (λ rs label.
      after-need (descriptor_for (types_of b.types) k.target) bad_struct (λ d asked.
      past_test (one_hierarchy (types_of b.types) k.source k.target) bad_branch (
      after-need (last_of rs) bad_branch (λ split is.
      after_test (val_below (types_of b.types) (target_of k) split.1) bad_branch (λ carried.
      this (record { acts = branches_desc m typed alive kept accepts k rs label is asked carried })))))))
  acting (br_on_cast_desc_eq_fail k) =
      after_test (in_reach b (heap_names k.source ++ heap_names k.target)) out_of_reach (λ reach.
      after-need (get_elem? (labels_of b st) k.label) absent (λ rs label.
      after-need (descriptor_for (types_of b.types) k.target) bad_struct (λ d asked.
      past_test (one_hierarchy (types_of b.types) k.source k.target) bad_branch (
      after-need (last_of rs) bad_branch (λ split is.
      after_test (val_below (types_of b.types) (rest_of k) split.1) bad_branch (λ carried.
      this (record { acts = branches_desc_fail m typed alive kept accepts k rs label is asked carried })))))))
