-- Each way out of the instructions that look only at references among the operands.
use Prim.Native.Nat.{ℕ, ◌^◌, ◌<◌}
use mathlib.Core.Path.{◌≡◌, refl, ap₂, ◌∙◌}
use mathlib.Core.Bool.{cond}
use mathlib.Core.Option.{Option, none, some}
use mathlib.Core.List.{List, ◌∷◌}
use native.Mathlib.Omega.{arith}
use lib.ListN.{drop}
use lib.Seq.{drop-drop}
use borrow.Author.Tests.{eq-eqb, ne_eqb}
use Rattle.scope.specs.Told.{Maybe}
use Rattle.scope.specs.Refusals.{trap_null}
use Rattle.scope.specs.Syntax.{i32}
use Rattle.scope.specs.Instructions.{ref_is_null, ref_eq, ref_as_non_null}
use Rattle.scope.specs.Machine.{Value, number, null, object, Machine, Program, Outcome, goes, on_taken, on_reference, truth, same_reference, with_operands, do_op}
use Rattle.run_value.specs.declared.Value.{Value as Carrier}
use Rattle.run_value.specs.declared.Value
use Rattle.run_stack.specs.Pile.{head_of}
use Rattle.run_state.specs.declared.Move
use Rattle.run_state.specs.declared.Reference.{Reference}
use Rattle.run_state.specs.declared.Reference
use Rattle.run_state.specs.Moved.{MoveIs}
use Rattle.run_state.specs.Planned.{reference_at, Seen, TopPlans, PairPlans}
use Rattle.run_state.proofs.Tops.{on_top_lem, top_low, two-low, looked_first, wrong_top, null_top, object_top}
use Rattle.run_state.proofs.Moving.{strays, trapping, giving_i32, giving_object}

-- ref.is_null and ref.as_non_null

module _ {first : Maybe Carrier} {r : Reference} (is : r ≡ reference_at first) where
  pub is_null_wrong : r ≡ Reference.TheVariants.Wrong → TopPlans first ref_is_null Move.TheVariants.Astray
  unfolding do_op
  is_null_wrong e = record { is = λ p codes m top. strays (wrong_top top is e _) }

  pub is_null_null : r ≡ Reference.TheVariants.Null → TopPlans first ref_is_null (Move.TheVariants.Gives 1 (Value.TheVariants.I32 1))
  unfolding do_op
  is_null_null e =
      record {
        is = λ p codes m top.
            let head = null_top top is e in giving_i32 1 1 (omega arith) (on_top_lem m.operands head _) (top_low m.operands head);
      }

  pub is_null_object : {o : ℕ} → r ≡ Reference.TheVariants.To o → TopPlans first ref_is_null (Move.TheVariants.Gives 1 (Value.TheVariants.I32 0))
  unfolding do_op
  is_null_object e =
      record {
        is = λ p codes m top.
            let head = object_top top is e in giving_i32 1 0 (omega arith) (on_top_lem m.operands head _) (top_low m.operands head);
      }

  pub as_non_null_wrong : r ≡ Reference.TheVariants.Wrong → TopPlans first ref_as_non_null Move.TheVariants.Astray
  unfolding do_op
  as_non_null_wrong e = record { is = λ p codes m top. strays (wrong_top top is e _) }

  pub as_non_null_null : r ≡ Reference.TheVariants.Null → TopPlans first ref_as_non_null (Move.TheVariants.Traps trap_null)
  unfolding do_op
  as_non_null_null e = record { is = λ p codes m top. trapping (on_top_lem m.operands (null_top top is e) _) }

  pub as_non_null_object : {o : ℕ} → r ≡ Reference.TheVariants.To o → TopPlans first ref_as_non_null (Move.TheVariants.Gives 1 (Value.TheVariants.Object o))
  unfolding do_op
  as_non_null_object {o} e =
      record {
        is = λ p codes m top.
            let head = object_top top is e in giving_object 1 o (on_top_lem m.operands head _) (top_low m.operands head);
      }

-- ref.eq

-- a reference, none where it is null
abbrev refer : Option ℕ → Value
refer none = null
refer (some o) = object o

on-refer : (x : Option ℕ) (f : Option ℕ → Outcome) → on_reference (refer x) f ≡ f x
on-refer none f = refl
on-refer (some o) f = refl

module _ (p : Program) (codes : List ℕ) (m : Machine) (x : Option ℕ) (top : head_of m.operands ≡ some (refer x)) where
  eq_next : do_op p m m.operands ref_eq ≡ on_taken (drop 1 m.operands) (λ w below. on_reference w (λ q. goes (with_operands m (truth (same_reference x q) ∷ below))))
  unfolding do_op
  eq_next = looked_first m.operands _ ∙ on_top_lem m.operands top _ ∙ on-refer x _

  eq_missing :
      {second : Maybe Carrier} {other : Reference} → Seen (drop 1 m.operands) second → other ≡ reference_at second → other ≡ Reference.TheVariants.Wrong
      → MoveIs p codes m (do_op p m m.operands ref_eq) Move.TheVariants.Astray
  eq_missing next is e = strays (eq_next ∙ wrong_top next is e _)

  eq-told :
      (y : Option ℕ) {b : ℕ} → head_of (drop 1 m.operands) ≡ some (refer y) → cond (same_reference x y) 1 0 ≡ b → b < 2 ^ 32
      → MoveIs p codes m (do_op p m m.operands ref_eq) (Move.TheVariants.Gives 2 (Value.TheVariants.I32 b))
  eq-told y {b} next e small =
      giving_i32 2 b small
      (eq_next
      ∙ on_top_lem (drop 1 m.operands) next _
      ∙ on-refer y _
      ∙ ap₂ (λ (n : ℕ) (below : List Value). goes (with_operands m (number i32 n ∷ below))) e (drop-drop 1 1 m.operands))
      (two-low m.operands top next)

module _ {first second : Maybe Carrier} {one other : Reference} (a : one ≡ reference_at first) (b : other ≡ reference_at second) where
  pub eq_wrong : one ≡ Reference.TheVariants.Wrong → PairPlans first second ref_eq Move.TheVariants.Astray
  unfolding do_op
  eq_wrong e = record { is = λ p codes m top next. strays (looked_first m.operands _ ∙ wrong_top top a e _) }

  module _ (e : one ≡ Reference.TheVariants.Null) where
    pub eq_null_wrong : other ≡ Reference.TheVariants.Wrong → PairPlans first second ref_eq Move.TheVariants.Astray
    eq_null_wrong f = record { is = λ p codes m top next. eq_missing p codes m none (null_top top a e) next b f }

    pub eq_null_null : other ≡ Reference.TheVariants.Null → PairPlans first second ref_eq (Move.TheVariants.Gives 2 (Value.TheVariants.I32 1))
    eq_null_null f = record { is = λ p codes m top next. eq-told p codes m none (null_top top a e) none (null_top next b f) refl (omega arith) }

    pub eq_null_object : {q : ℕ} → other ≡ Reference.TheVariants.To q → PairPlans first second ref_eq (Move.TheVariants.Gives 2 (Value.TheVariants.I32 0))
    eq_null_object {q} f = record { is = λ p codes m top next. eq-told p codes m none (null_top top a e) (some q) (object_top next b f) refl (omega arith) }

  module _ {o : ℕ} (e : one ≡ Reference.TheVariants.To o) where
    pub eq_object_wrong : other ≡ Reference.TheVariants.Wrong → PairPlans first second ref_eq Move.TheVariants.Astray
    eq_object_wrong f = record { is = λ p codes m top next. eq_missing p codes m (some o) (object_top top a e) next b f }

    pub eq_object_null : other ≡ Reference.TheVariants.Null → PairPlans first second ref_eq (Move.TheVariants.Gives 2 (Value.TheVariants.I32 0))
    eq_object_null f = record { is = λ p codes m top next. eq-told p codes m (some o) (object_top top a e) none (null_top next b f) refl (omega arith) }

    module _ {q : ℕ} (f : other ≡ Reference.TheVariants.To q) where
      pub eq_same : o ≡ q → PairPlans first second ref_eq (Move.TheVariants.Gives 2 (Value.TheVariants.I32 1))
      eq_same h =
          record { is = λ p codes m top next. eq-told p codes m (some o) (object_top top a e) (some q) (object_top next b f) (rw (eq-eqb o q h)) (omega arith) }

      pub eq_other : (o ≡ q → ⊥) → PairPlans first second ref_eq (Move.TheVariants.Gives 2 (Value.TheVariants.I32 0))
      eq_other h =
          record { is = λ p codes m top next. eq-told p codes m (some o) (object_top top a e) (some q) (object_top next b f) (rw (ne_eqb o q h)) (omega arith) }

pub ruleset reference_exits = (is_null_wrong, is_null_null, is_null_object, as_non_null_wrong, as_non_null_null, as_non_null_object)

pub ruleset eq_exits = (eq_wrong, eq_null_wrong, eq_null_null, eq_null_object, eq_object_wrong, eq_object_null, eq_same, eq_other)
