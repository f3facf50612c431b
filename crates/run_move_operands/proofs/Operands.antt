-- Each way out of the instructions that only take the topmost operand.
use Prim.Native.Nat.{ℕ, ◌^◌, ◌<◌}
use mathlib.Core.Path.{◌≡◌, refl, ap, ◌∙◌}
use mathlib.Core.Option.{some}
use mathlib.Core.List.{List, [], ◌∷◌}
use native.Mathlib.Nat.{mod-eq_of_lt}
use borrow.Author.Tests.{eq-eqb, ne_eqb}
use Rattle.scope.specs.Told.{Maybe}
use Rattle.std.specs.Prelude.{None, Some}
use Rattle.scope.specs.Syntax.{i32}
use Rattle.scope.specs.Instructions.{drop_value, br_if}
use Rattle.scope.specs.Machine.{number, Outcome, stuck, on_i32, do_op}
use Rattle.run_value.specs.declared.Value
use Rattle.run_value.specs.declared.Value.{Value as Carrier}
use Rattle.run_value.specs.Carried.{decoded}
use Rattle.run_state.specs.declared.Move
use Rattle.run_state.specs.Planned.{TopPlans}
use Rattle.run_state.proofs.Tops.{on_top_lem, on_none, top_low, value_top, no_top}
use Rattle.run_state.proofs.Moving.{strays, leaving, branching}

-- drop

pub drop_nothing : {first : Maybe Carrier} → first ≡ None → TopPlans first drop_value Move.TheVariants.Astray
unfolding do_op
drop_nothing e = record { is = λ p codes m top. strays (on_none m.operands (no_top top e) _) }

pub drop-one : (v : Carrier) → TopPlans (Some v) drop_value (Move.TheVariants.Leaves 1)
unfolding do_op
drop-one v =
    record { is = λ p codes m top. leaving 1 (on_top_lem m.operands (value_top top refl) _) (top_low m.operands (value_top top refl)) }

-- br_if

as_i32 : {n : ℕ} → n < 2 ^ 32 → decoded (Value.TheVariants.I32 n) ≡ number i32 n
as_i32 small = ap (number i32) (mod-eq_of_lt small)

no_i32 : (v : Carrier) → ((n : ℕ) → v ≡ Value.TheVariants.I32 n → ⊥) → (f : ℕ → Outcome) → on_i32 (decoded v) f ≡ stuck
no_i32 (Value.TheVariants.I32 n) h f = absurd (h n refl)
no_i32 (Value.TheVariants.I64 n) h f = refl
no_i32 (Value.TheVariants.F32 x) h f = refl
no_i32 (Value.TheVariants.F64 x) h f = refl
no_i32 (Value.TheVariants.Nan32 n) h f = refl
no_i32 (Value.TheVariants.Nan64 n) h f = refl
no_i32 Value.TheVariants.Null h f = refl
no_i32 (Value.TheVariants.Object o) h f = refl

module _ (label : ℕ) where
  pub branch_nothing : {first : Maybe Carrier} → first ≡ None → TopPlans first (br_if label) Move.TheVariants.Astray
  unfolding do_op
  branch_nothing e = record { is = λ p codes m top. strays (on_none m.operands (no_top top e) _) }

  pub branch_other : (v : Carrier) → ((n : ℕ) → v ≡ Value.TheVariants.I32 n → ⊥) → TopPlans (Some v) (br_if label) Move.TheVariants.Astray
  unfolding do_op
  branch_other v h = record { is = λ p codes m top. strays (on_top_lem m.operands (value_top top refl) _ ∙ no_i32 v h _) }

  module _ (n : ℕ) (small : n < 2 ^ 32) where
    pub branch-zero : n ≡ 0 → TopPlans (Some (Value.TheVariants.I32 n)) (br_if label) (Move.TheVariants.Leaves 1)
    unfolding do_op
    branch-zero z =
        record {
          is = λ p codes m top.
              let head = value_top top refl ∙ ap some (as_i32 small) in
              leaving 1 (on_top_lem m.operands head _ ∙ rw (eq-eqb n 0 z)) (top_low m.operands head);
        }

    pub branch_more : (n ≡ 0 → ⊥) → TopPlans (Some (Value.TheVariants.I32 n)) (br_if label) (Move.TheVariants.Branches 1 label)
    unfolding do_op
    branch_more z =
        record {
          is = λ p codes m top.
              let head = value_top top refl ∙ ap some (as_i32 small) in
              branching 1 label (on_top_lem m.operands head _ ∙ rw (ne_eqb n 0 z)) (top_low m.operands head);
        }

pub ruleset operand_exits = (drop_nothing, drop-one, branch_nothing, branch_other, branch-zero, branch_more)
