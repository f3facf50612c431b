-- Each way out of the instructions that read or put a local.
use Prim.Native.Nat.{ℕ, ◌≤◌, ◌<◌}
use mathlib.Core.Path.{◌≡◌, refl, ap, ◌∙◌}
use mathlib.Core.Option.{Option, none, some}
use mathlib.Core.List.{List, ◌∷◌}
use native.Mathlib.Omega.{arith}
use lib.ListN.{length, get_elem?, set, drop}
use Rattle.scope.specs.Told.{Maybe}
use Rattle.std.specs.Prelude.{None, Some}
use Rattle.scope.specs.Reading.{given}
use Rattle.scope.specs.Instructions.{local_get, local_set, local_tee}
use Rattle.scope.specs.Machine.{Value, Machine, Outcome, goes, stuck, with_operands, with_locals, on_set, do_op}
use Rattle.run_values.specs.Values.{held_from}
use Rattle.run_value.specs.declared.Value.{Value as Carrier}
use Rattle.run_value.specs.Carried.{decoded}
use Rattle.run_stack.specs.declared.HeldLocal.{HeldLocal}
use Rattle.run_stack.specs.declared.HeldLocal
use Rattle.run_stack.specs.Pile.{LocalIs}
use Rattle.run_stack.proofs.Held.{local_there_lem, local_none, locals-length, local_missed, local_empty, local_got}
use Rattle.run_state.specs.declared.Move
use Rattle.run_state.specs.Planned.{HeldPlans, LocalPlans}
use Rattle.run_state.proofs.Tops.{on_top_lem, on_none, top_low, value_top, no_top}
use Rattle.run_state.proofs.Moving.{strays, giving, setting_local}

-- local.get

module _ {locals : List ℕ} {count x : ℕ} {r : HeldLocal} (a : LocalIs locals count x r) where
  pub get_absent : r ≡ HeldLocal.TheVariants.Absent → HeldPlans locals count (local_get x) Move.TheVariants.Astray
  unfolding do_op
  get_absent e = record { is = λ p codes m same. strays (rw (same, local_missed e a)) }

  pub get_unset : r ≡ HeldLocal.TheVariants.Unset → HeldPlans locals count (local_get x) Move.TheVariants.Astray
  unfolding do_op
  get_unset e = record { is = λ p codes m same. strays (rw (same, local_empty e a)) }

  pub get_held : {v : Carrier} → r ≡ HeldLocal.TheVariants.Is v → HeldPlans locals count (local_get x) (Move.TheVariants.Gives 0 v)
  unfolding do_op
  get_held {v} e =
      record { is = λ p codes m same. giving 0 v (found m (ap (λ (l : List (Option Value)). get_elem? l x) same ∙ local_got e a)) (omega arith) }
    where
      found :
          (m : Machine) → get_elem? m.locals x ≡ some (some (decoded v))
          → given (get_elem? m.locals x) stuck (λ held. given held stuck (λ u. goes (with_operands m (u ∷ m.operands)))) ≡ goes (with_operands m (decoded v ∷ m.operands))
      found m e = rw e

-- local.set and local.tee

module _ (locals : List ℕ) {count x : ℕ} (m : Machine) (same : m.locals ≡ held_from locals 0 count) (v : Value) (f : Machine → Outcome) where
  set_past : count ≤ x → on_set m x v f ≡ stuck
  set_past h = let past : get_elem? m.locals x ≡ none = rw same (local_none locals count x h) in rw past

  set_there : x < count → on_set m x v f ≡ f (with_locals m (set m.locals x (some v)))
  set_there h = let there = ap (λ (l : List (Option Value)). get_elem? l x) same ∙ local_there_lem locals count x h in rw there

local_inside : (locals : List ℕ) {count x : ℕ} (m : Machine) → m.locals ≡ held_from locals 0 count → x < count → x < length m.locals
local_inside locals {count} m same h = rw (same, locals-length locals count) h

module _ {locals : List ℕ} {count : ℕ} (x : ℕ) where
  pub set-absent : (v : Carrier) → count ≤ x → LocalPlans locals count (Some v) (local_set x) Move.TheVariants.Astray
  unfolding do_op
  set-absent v h =
      record { is = λ p codes m same top. strays (on_top_lem m.operands (value_top top refl) _ ∙ set_past locals m same (decoded v) (λ after. goes (with_operands after (drop 1 m.operands))) h) }

  pub tee_absent : (v : Carrier) → count ≤ x → LocalPlans locals count (Some v) (local_tee x) Move.TheVariants.Astray
  unfolding do_op
  tee_absent v h =
      record { is = λ p codes m same top. strays (on_top_lem m.operands (value_top top refl) _ ∙ set_past locals m same (decoded v) goes h) }

module _ {locals : List ℕ} {count : ℕ} {first : Maybe Carrier} (x : ℕ) where
  pub set_nothing : first ≡ None → LocalPlans locals count first (local_set x) Move.TheVariants.Astray
  unfolding do_op
  set_nothing e = record { is = λ p codes m same top. strays (on_none m.operands (no_top top e) _) }

  pub tee_nothing : first ≡ None → LocalPlans locals count first (local_tee x) Move.TheVariants.Astray
  unfolding do_op
  tee_nothing e = record { is = λ p codes m same top. strays (on_none m.operands (no_top top e) _) }

  module _ {v : Carrier} (e : first ≡ Some v) where
    pub set_local : x < count → LocalPlans locals count first (local_set x) (Move.TheVariants.SetsLocal 1 x v)
    unfolding do_op
    set_local h =
        record {
          is = λ p codes m same top.
              setting_local 1 x v
              (on_top_lem m.operands (value_top top e) _ ∙ set_there locals m same (decoded v) (λ after. goes (with_operands after (drop 1 m.operands))) h)
              (top_low m.operands (value_top top e))
              (local_inside locals m same h);
        }

    pub tee_local : x < count → LocalPlans locals count first (local_tee x) (Move.TheVariants.SetsLocal 0 x v)
    unfolding do_op
    tee_local h =
        record {
          is = λ p codes m same top.
              setting_local 0 x v
              (on_top_lem m.operands (value_top top e) _ ∙ set_there locals m same (decoded v) goes h)
              (omega arith)
              (local_inside locals m same h);
        }

pub ruleset local_exits = (get_absent, get_unset, get_held, set_nothing, tee_nothing, set-absent, tee_absent, set_local, tee_local)
