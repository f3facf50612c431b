-- Each way out of the plans of the branching casts.
use Prim.Native.Nat.{ℕ, ◌+◌}
use mathlib.Core.Path.{◌≡◌, refl, ◌∙◌}
use mathlib.Core.Bool.{Bool, true, false, not, ◌&&◌}
use mathlib.Core.List.{List, [], ◌∷◌, ◌++◌}
use lib.ListN.{get_elem?}
use lib.Dec.{ltb}
use borrow.Author.Tests.{not-true, not-false}
use mir.Syntax.{w16}
use mir.Val.{Fits}
use Rattle.scope.specs.Told.{Maybe}
use Rattle.std.specs.Prelude.{None, Some}
use Rattle.scope.specs.Refusals.{out_of_reach, absent, bad_struct}
use Rattle.scope.specs.Lists.{every}
use Rattle.scope.specs.Syntax.{Val, ref, nullable, Types}
use Rattle.scope.specs.TypeRules.{heap_names}
use Rattle.scope.specs.BodyRules.{value, need, and_ruled, descriptor_for, branches, plan_of}
use Rattle.scope.proofs.Impossible.{impossible}
use Rattle.type_table.specs.View.{heap_at_code}
use Rattle.type_reach.specs.Names.{all_below}
use Rattle.type_reach.proofs.Naming.{below-append}
use Rattle.body_state.specs.declared.Scene.{Scene}
use Rattle.body_state.specs.declared.Values.{Values}
use Rattle.body_state.specs.declared.Planned.{Planned}
use Rattle.body_state.specs.declared.Planned
use Rattle.body_state.specs.State.{planned_of}
use Rattle.body_plan_parts.specs.Planning.{context_on, CodeIs}
use Rattle.body_plan_parts.proofs.Steps.{found_then}
use Rattle.body_plan_parts.proofs.Words.{wants_none, wants_value}
use Rattle.body_plan_labels.specs.Labels.{labels_at, LabelOf}
use Rattle.body_plan_labels.proofs.Labels.{label_none, label_some}
use Rattle.body_plan_casts.specs.Casts.{DescriptorFor}
use Rattle.body_plan_casts.proofs.Targets.{reach_small}
use Rattle.body_plan_casts.proofs.Casting.{descriptor_small}
use Rattle.body_plan_branches.specs.declared.Target.{Target}
use Rattle.body_plan_branches.specs.declared.Target
use Rattle.body_plan_cast_forms.specs.declared.Reference.{Reference}
use Rattle.body_plan_branches.specs.Branches.{Branching, cast_op, desc_op, cast_label_at, CastLabel}
use Rattle.body_plan_cast_forms.specs.Forms.{cast_between, Low, carried_of, Casts}

-- cast_label

both-reached : (count : ℕ) (xs ys : List ℕ) {r s : Bool} → r ≡ all_below count xs → s ≡ all_below count ys → every (λ x. ltb x count) (xs ++ ys) ≡ (r && s)
unfolding all_below
both-reached count xs ys a b = below-append count xs ys ∙ rw (← a, ← b)

module _ (work : List ℕ) (k : Scene) (depth l source target : ℕ) {r : Bool} (a : r ≡ all_below k.types (heap_names (heap_at_code source))) where
  pub source_out : not r ≡ true → CastLabel work k depth l source target (Target.TheVariants.Fault out_of_reach)
  unfolding cast_label_at
  source_out t =
      record {
        is = λ codes. rw (both-reached k.types (heap_names (heap_at_code source)) (heap_names (heap_at_code target)) a refl, not-true r t);
        low = λ vs e. impossible cc;
      }

  module _ (t : not r ≡ false) {s : Bool} (b : s ≡ all_below k.types (heap_names (heap_at_code target))) where
    pub target_out : not s ≡ true → CastLabel work k depth l source target (Target.TheVariants.Fault out_of_reach)
    unfolding cast_label_at
    target_out u =
        record {
          is = λ codes. rw (both-reached k.types (heap_names (heap_at_code source)) (heap_names (heap_at_code target)) a b, not-false r t, not-true s u);
          low = λ vs e. impossible cc;
        }

    module _ (u : not s ≡ false) {m : Maybe Values} (d : LabelOf work k depth l m) where
      pub target_absent : m ≡ None → CastLabel work k depth l source target (Target.TheVariants.Fault absent)
      unfolding cast_label_at
      target_absent q =
          record {
            is = λ codes.
                rw (both-reached k.types (heap_names (heap_at_code source)) (heap_names (heap_at_code target)) a b, not-false r t, not-false s u, label_none d q codes);
            low = λ vs e. impossible cc;
          }

      pub target_there : Fits w16 k.types → {v : Values} → m ≡ Some v → CastLabel work k depth l source target (Target.TheVariants.Is v)
      unfolding cast_label_at
      target_there f q =
          record {
            is = λ codes.
                rw (both-reached k.types (heap_names (heap_at_code source)) (heap_names (heap_at_code target)) a b, not-false r t, not-false s u, label_some d q codes);
            low = λ vs e. record { first = reach_small k.types source a t f; second = reach_small k.types target b u f };
          }

pub ruleset target_exits = (source_out, target_out, target_absent, target_there)

-- the instructions

pub target_low : {work : List ℕ} {k : Scene} {depth l source target : ℕ} {r : Target} → CastLabel work k depth l source target r → {v : Values} → r ≡ Target.TheVariants.Is v → Low source target
target_low a {v} q = a.low v q

module _ (ts : Types) (count : ℕ) (locals results : List Val) (labels : List (List Val)) (is_set : List Bool) (l : ℕ) (source target : Reference) where
  cast_is : (fail : Bool) → plan_of (context_on ts count locals results) (record { labels = labels; is_set = is_set }) (cast_op fail (cast_between l source target))
      ≡ and_ruled (cast_label_at labels count l (heap_at_code source.heap) (heap_at_code target.heap))
      (branches (context_on ts count locals results) [] (cast_between l source target) (carried_of fail (cast_between l source target)) (carried_of (not fail) (cast_between l source target)))
  unfolding plan_of cast_op cast_label_at
  cast_is true = found_then (every (λ x. ltb x count) (heap_names (heap_at_code source.heap) ++ heap_names (heap_at_code target.heap))) 6 (get_elem? labels l) 21 _
  cast_is false = found_then (every (λ x. ltb x count) (heap_names (heap_at_code source.heap) ++ heap_names (heap_at_code target.heap))) 6 (get_elem? labels l) 21 _

  desc_is : (fail : Bool) → plan_of (context_on ts count locals results) (record { labels = labels; is_set = is_set }) (desc_op fail (cast_between l source target))
      ≡ and_ruled (cast_label_at labels count l (heap_at_code source.heap) (heap_at_code target.heap)) (λ vs.
      need (descriptor_for ts (heap_at_code target.heap)) 23 (λ d.
      branches (context_on ts count locals results) (value (nullable d) ∷ []) (cast_between l source target) (carried_of fail (cast_between l source target)) (carried_of (not fail) (cast_between l source target)) vs))
  unfolding plan_of desc_op cast_label_at
  desc_is true = found_then (every (λ x. ltb x count) (heap_names (heap_at_code source.heap) ++ heap_names (heap_at_code target.heap))) 6 (get_elem? labels l) 21 _
  desc_is false = found_then (every (λ x. ltb x count) (heap_names (heap_at_code source.heap) ++ heap_names (heap_at_code target.heap))) 6 (get_elem? labels l) 21 _

module _ (codes : List ℕ) (ts : Types) (source target : Reference) (fail : Bool) {work : List ℕ} {k : Scene} {depth l : ℕ} {r : Target} (a : CastLabel work k depth l source.heap target.heap r) where
  module _ {n : ℕ} (q : r ≡ Target.TheVariants.Fault n) where
    pub cast_refused : Branching codes ts k.types (labels_at codes work k depth) (cast_op fail (cast_between l source target)) (Planned.TheVariants.Fault n)
    unfolding planned_of
    cast_refused =
        record { is = λ locals results is_set. rw (cast_is ts k.types locals results (labels_at codes work k depth) is_set l source target fail, ← a.is codes, q) }

    pub desc_refused : Branching codes ts k.types (labels_at codes work k depth) (desc_op fail (cast_between l source target)) (Planned.TheVariants.Fault n)
    unfolding planned_of
    desc_refused =
        record { is = λ locals results is_set. rw (desc_is ts k.types locals results (labels_at codes work k depth) is_set l source target fail, ← a.is codes, q) }

  module _ {v : Values} (q : r ≡ Target.TheVariants.Is v) where
    pub cast_planned : {p : Planned} → Casts codes ts 0 source target fail v p → Branching codes ts k.types (labels_at codes work k depth) (cast_op fail (cast_between l source target)) p
    cast_planned c =
        record {
          is = λ locals results is_set.
              rw (cast_is ts k.types locals results (labels_at codes work k depth) is_set l source target fail, ← a.is codes, q, c.is l k.types locals results, wants_none);
        }

    module _ {d : Maybe ℕ} (b : DescriptorFor (descriptor_for ts (heap_at_code target.heap)) d) where
      pub desc_undescribed : d ≡ None → Branching codes ts k.types (labels_at codes work k depth) (desc_op fail (cast_between l source target)) (Planned.TheVariants.Fault bad_struct)
      unfolding planned_of
      desc_undescribed e =
          record {
            is = λ locals results is_set.
                rw (desc_is ts k.types locals results (labels_at codes work k depth) is_set l source target fail, ← a.is codes, q, ← b.is, e);
          }

      pub desc_planned : {y : ℕ} → d ≡ Some y → {j : ℕ} → CodeIs (ref true (heap_at_code y)) j → {p : Planned} → Casts codes ts (j + 3) source target fail v p → Branching codes ts k.types (labels_at codes work k depth) (desc_op fail (cast_between l source target)) p
      desc_planned e {j} top c =
          record {
            is = λ locals results is_set.
                rw (desc_is ts k.types locals results (labels_at codes work k depth) is_set l source target fail, ← a.is codes, q, ← b.is, e, c.is l k.types locals results, wants_value j, top.is);
          }

pub ruleset branch_exits = (cast_refused, desc_refused, target_low, descriptor_small, cast_planned, desc_undescribed, desc_planned)
