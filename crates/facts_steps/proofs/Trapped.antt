-- What the rules say of traps, taken apart. No rule says that the machine is stuck, and one that says a trap is one of the six.
use Prim.Native.Nat.{ℕ}
use native.Mathlib.Omega.{arith}
use mathlib.Core.Path.{◌≡◌, refl, subst}
use mathlib.Core.Option.{Option}
use mathlib.Core.List.{List}
use Rattle.scope.specs.Refusals.{trap_unreachable, trap_null, trap_null_descriptor, trap_cast, trap_no_room, trap_other_numeric}
use Rattle.scope.specs.Syntax.{Types}
use Rattle.scope.specs.Instructions.{Op, unreachable}
use Rattle.scope.specs.Bodies.{Code}
use Rattle.scope.specs.Machine.{Value, Store, Block, Machine, Program, Outcome, goes, ends, traps, stuck}
use Rattle.scope.proofs.Impossible.{contradiction}
use Rattle.facts_runs.specs.OtherNumeric.{OtherNumeric}
use Rattle.facts_steps.specs.Branches.{Finishes, finishes, Branches, out_of_block, to_loop, out_of_function}
use Rattle.facts_steps.specs.Trapping.{NullUsed, NullDescriptor, CastFailed, NoRoomLeft, Traps, trap_41, trap_42, trap_43, trap_44, trap_45, trap_46}
use Rattle.facts_steps.specs.Rules.{Does, does_nop, does_return, does_br, does_br_if_zero, does_br_if, does_drop, does_local_get, does_local_set, does_local_tee, does_i32_const, does_i64_const, does_f32_const, does_f64_const, does_one, does_two, does_ref_null, does_null_is_null, does_object_is_null, does_eq_nulls, does_eq_one_object, does_eq_two_objects, does_eq_null_first, does_eq_null_second, does_as_non_null, does_make, does_struct_get, does_struct_set, does_get_desc, does_test_yes, does_test_no, does_cast, does_cast_desc_eq, does_on_cast, does_not_on_cast, does_on_fail, does_not_on_fail, does_on_desc_eq, does_not_on_desc_eq, does_on_desc_eq_fail, does_not_on_desc_eq_fail, does_trap}

-- by the outcome: a rule goes on, ends, or says a trap of which P holds; it never is stuck
pub data Tells (P : ℕ → Type 0) : Outcome → Type 0 where
  going : {m : Machine} → Tells P (goes m)
  ending : {m : Machine} → Tells P (ends m)
  trapping : {n : ℕ} → P n → Tells P (traps n)

same_trap : {n k : ℕ} → ◌≡◌ {A = Outcome} (traps n) (traps k) → n ≡ k
same_trap e = cc

pub told_trap : {P : ℕ → Type 0} {r : Outcome} {n : ℕ} → Tells P r → r ≡ traps n → P n
told_trap going e = absurd (contradiction cc)
told_trap ending e = absurd (contradiction cc)
told_trap {P} (trapping t) e = subst P (same_trap e) t

pub told-not_stuck : {P : ℕ → Type 0} {r : Outcome} → Tells P r → r ≡ stuck → ⊥
told-not_stuck going e = contradiction cc
told-not_stuck ending e = contradiction cc
told-not_stuck (trapping t) e = contradiction cc

module _ {P : ℕ → Type 0} {p : Program} {heap : Store} {locals : List (Option Value)} where
  pub finish_tells : {vs : List Value} {r : Outcome} → Finishes p heap locals vs r → Tells P r
  finish_tells (finishes s) = ending

  branch_tells : {blocks : List Block} {code : Code} {l : ℕ} {vs : List Value} {r : Outcome} → Branches p heap locals blocks code l vs r → Tells P r
  branch_tells (out_of_block w s e) = going
  branch_tells (to_loop w) = going
  branch_tells (out_of_function e f) = finish_tells f

pub op_tells : {p : Program} {heap : Store} {locals : List (Option Value)} {blocks : List Block} {code : Code} {vs : List Value} {o : Op} {r : Outcome}
    → Does p heap locals blocks code vs o r → Tells (Traps p.types heap vs o) r
op_tells does_nop = going
op_tells (does_return f) = finish_tells f
op_tells (does_br b) = branch_tells b
op_tells does_br_if_zero = going
op_tells (does_br_if x b) = branch_tells b
op_tells does_drop = going
op_tells (does_local_get x) = going
op_tells (does_local_set x) = going
op_tells (does_local_tee x) = going
op_tells does_i32_const = going
op_tells does_i64_const = going
op_tells does_f32_const = going
op_tells does_f64_const = going
op_tells (does_one x) = going
op_tells (does_two x) = going
op_tells does_ref_null = going
op_tells does_null_is_null = going
op_tells does_object_is_null = going
op_tells does_eq_nulls = going
op_tells does_eq_one_object = going
op_tells (does_eq_two_objects x) = going
op_tells does_eq_null_first = going
op_tells does_eq_null_second = going
op_tells does_as_non_null = going
op_tells (does_make x y) = going
op_tells (does_struct_get x y) = going
op_tells (does_struct_set x y z) = going
op_tells (does_get_desc x y) = going
op_tells (does_test_yes x) = going
op_tells (does_test_no x) = going
op_tells (does_cast x) = going
op_tells (does_cast_desc_eq x) = going
op_tells (does_on_cast x b) = branch_tells b
op_tells (does_not_on_cast x) = going
op_tells (does_on_fail x b) = branch_tells b
op_tells (does_not_on_fail x) = going
op_tells (does_on_desc_eq x b) = branch_tells b
op_tells (does_not_on_desc_eq x) = going
op_tells (does_on_desc_eq_fail x b) = branch_tells b
op_tells (does_not_on_desc_eq_fail x) = going
op_tells (does_trap t) = trapping t

-- each trap's number is its own

module _ {ts : Types} {heap : Store} {vs : List Value} where
  pub forty_one_only : {o : Op} {n : ℕ} → Traps ts heap vs o n → n ≡ trap_unreachable → o ≡ unreachable
  forty_one_only trap_41 e = refl
  forty_one_only (trap_42 u) e = absurd (let other : ⊥ = omega arith in other)
  forty_one_only (trap_43 u) e = absurd (let other : ⊥ = omega arith in other)
  forty_one_only (trap_44 u) e = absurd (let other : ⊥ = omega arith in other)
  forty_one_only (trap_45 u) e = absurd (let other : ⊥ = omega arith in other)
  forty_one_only (trap_46 u) e = absurd (let other : ⊥ = omega arith in other)

  pub forty_two_only : {o : Op} {n : ℕ} → Traps ts heap vs o n → n ≡ trap_null → NullUsed vs o
  forty_two_only trap_41 e = absurd (let other : ⊥ = omega arith in other)
  forty_two_only (trap_42 u) e = u
  forty_two_only (trap_43 u) e = absurd (let other : ⊥ = omega arith in other)
  forty_two_only (trap_44 u) e = absurd (let other : ⊥ = omega arith in other)
  forty_two_only (trap_45 u) e = absurd (let other : ⊥ = omega arith in other)
  forty_two_only (trap_46 u) e = absurd (let other : ⊥ = omega arith in other)

  pub forty_three_only : {o : Op} {n : ℕ} → Traps ts heap vs o n → n ≡ trap_null_descriptor → NullDescriptor vs o
  forty_three_only trap_41 e = absurd (let other : ⊥ = omega arith in other)
  forty_three_only (trap_42 u) e = absurd (let other : ⊥ = omega arith in other)
  forty_three_only (trap_43 u) e = u
  forty_three_only (trap_44 u) e = absurd (let other : ⊥ = omega arith in other)
  forty_three_only (trap_45 u) e = absurd (let other : ⊥ = omega arith in other)
  forty_three_only (trap_46 u) e = absurd (let other : ⊥ = omega arith in other)

  pub forty_four_only : {o : Op} {n : ℕ} → Traps ts heap vs o n → n ≡ trap_cast → CastFailed ts heap vs o
  forty_four_only trap_41 e = absurd (let other : ⊥ = omega arith in other)
  forty_four_only (trap_42 u) e = absurd (let other : ⊥ = omega arith in other)
  forty_four_only (trap_43 u) e = absurd (let other : ⊥ = omega arith in other)
  forty_four_only (trap_44 u) e = u
  forty_four_only (trap_45 u) e = absurd (let other : ⊥ = omega arith in other)
  forty_four_only (trap_46 u) e = absurd (let other : ⊥ = omega arith in other)

  pub forty_five_only : {o : Op} {n : ℕ} → Traps ts heap vs o n → n ≡ trap_no_room → NoRoomLeft ts heap vs o
  forty_five_only trap_41 e = absurd (let other : ⊥ = omega arith in other)
  forty_five_only (trap_42 u) e = absurd (let other : ⊥ = omega arith in other)
  forty_five_only (trap_43 u) e = absurd (let other : ⊥ = omega arith in other)
  forty_five_only (trap_44 u) e = absurd (let other : ⊥ = omega arith in other)
  forty_five_only (trap_45 u) e = u
  forty_five_only (trap_46 u) e = absurd (let other : ⊥ = omega arith in other)

  pub forty_six_only : {o : Op} {n : ℕ} → Traps ts heap vs o n → n ≡ trap_other_numeric → OtherNumeric o
  forty_six_only trap_41 e = absurd (let other : ⊥ = omega arith in other)
  forty_six_only (trap_42 u) e = absurd (let other : ⊥ = omega arith in other)
  forty_six_only (trap_43 u) e = absurd (let other : ⊥ = omega arith in other)
  forty_six_only (trap_44 u) e = absurd (let other : ⊥ = omega arith in other)
  forty_six_only (trap_45 u) e = absurd (let other : ⊥ = omega arith in other)
  forty_six_only (trap_46 u) e = u
