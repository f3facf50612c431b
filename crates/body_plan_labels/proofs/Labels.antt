-- Each way out of the search for a label, and of the plans of br and br_if.
use Prim.Native.Nat.{ℕ, zero, suc, ◌+◌, ◌-◌, ◌*◌, ◌≤◌, ◌<◌}
use mathlib.Core.Path.{◌≡◌, refl, sym, ap, ◌∙◌}
use mathlib.Core.Bool.{true, false}
use mathlib.Core.Option.{none, some}
use mathlib.Core.List.{List, [], ◌∷◌, ◌++◌, map, append-nil}
use native.Mathlib.Omega.{arith}
use lib.ListN.{get_elem?}
use borrow.Author.Tests.{eq-eqb, ne_eqb}
use Rattle.scope.specs.Told.{Maybe}
use Rattle.std.specs.Prelude.{None, Some}
use Rattle.scope.specs.Refusals.{absent}
use Rattle.scope.specs.Syntax.{Val}
use Rattle.scope.specs.Instructions.{br, br_if}
use Rattle.scope.specs.BodyRules.{plan_of}
use Rattle.scope.specs.Bodies.{label_of}
use Rattle.lent_u32.specs.Scratch.{Word32At}
use Rattle.type_table.specs.View.{codes_at}
use Rattle.body_state.specs.declared.Scene.{Scene}
use Rattle.body_state.specs.declared.Values.{Values}
use Rattle.body_state.specs.declared.Values
use Rattle.body_state.specs.declared.Planned.{Planned}
use Rattle.body_state.specs.declared.Planned
use Rattle.body_state.specs.Layout.{frames_from, frame_span, loop_word}
use Rattle.body_state.specs.State.{values_of, plain_of, planned_of, frame_at, frames_at, ResultsOf}
use Rattle.body_plan_parts.specs.Planning.{Stops}
use Rattle.body_plan_parts.proofs.Words.{wants_none, wants_i32, gives_none}
use Rattle.body_plan_labels.specs.Labels.{labels_at, BlockLabel, LabelOf, Goes}

-- block_label

module _ {work : List ℕ} (m : ℕ) {w : ℕ} (a : Word32At work (frames_from + (frame_span * m + loop_word)) w) where
  pub loop_label : w ≡ 1 → BlockLabel work m (Values.TheVariants.Types 0 0)
  unfolding frame_at values_of codes_at
  loop_label e = record { is = λ codes count. rw (← a.is, eq-eqb w 1 e) }

  pub block_results_lem : (w ≡ 1 → ⊥) → {r : Values} → ResultsOf work m r → BlockLabel work m r
  unfolding frame_at
  block_results_lem b d = record { is = λ codes count. rw (← a.is, ne_eqb w 1 b) (d.is codes) }

-- label_of: the frames, then the function's own results

module _ (work : List ℕ) (count : ℕ) (own : List Val) where
  frame_there : (d l : ℕ) → l < d → get_elem? (map label_of (frames_at work count d) ++ own ∷ []) l ≡ some (label_of (frame_at work count (d - l + 1)))
  unfolding frames_at
  frame_there zero l h = absurd (omega arith)
  frame_there (suc d) zero h =
      let same : d + 2 ≡ suc d - 0 + 1 = omega arith in ap (λ (m : ℕ). some (label_of (frame_at work count m))) same
  frame_there (suc d) (suc l) h =
      let same : d - l + 1 ≡ suc d - suc l + 1 = omega arith in
      frame_there d l (omega arith) ∙ ap (λ (m : ℕ). some (label_of (frame_at work count m))) same

  own_there : (d : ℕ) → get_elem? (map label_of (frames_at work count d) ++ own ∷ []) d ≡ some own
  unfolding frames_at
  own_there zero = refl
  own_there (suc d) = own_there d

  none_there_lem : (d l : ℕ) → d < l → get_elem? (map label_of (frames_at work count d) ++ own ∷ []) l ≡ none
  unfolding frames_at
  none_there_lem d zero h = absurd (omega arith)
  none_there_lem zero (suc l) h = refl
  none_there_lem (suc d) (suc l) h = none_there_lem d l (omega arith)

module _ (work : List ℕ) (k : Scene) (depth l : ℕ) where
  pub label_absent_lem : depth < l → LabelOf work k depth l None
  unfolding labels_at
  label_absent_lem h = record { is = λ codes. sym (none_there_lem work k.locals _ depth l h) }

  pub label_own : depth ≡ l → LabelOf work k depth l (Some (Values.TheVariants.Types k.first k.results))
  unfolding labels_at values_of
  label_own e = record { is = λ codes. rw (← e) (sym (own_there work k.locals _ depth)) }

  pub label_block : l ≤ depth → (depth ≡ l → ⊥) → {r : Values} → BlockLabel work (depth - l + 1) r → LabelOf work k depth l (Some r)
  unfolding labels_at
  label_block h other a =
      let inside : l < depth = omega (arith, other) in
      record { is = λ codes. ap some (a.is codes k.locals) ∙ sym (frame_there work k.locals _ depth l inside) }

-- br and br_if

module _ {work : List ℕ} {k : Scene} {depth l : ℕ} {r : Maybe Values} (a : LabelOf work k depth l r) where
  module _ (e : r ≡ None) where
    pub label_none : (codes : List ℕ) → get_elem? (labels_at codes work k depth) l ≡ none
    label_none codes = sym (a.is codes) ∙ rw e

    pub br_absent : Goes work k depth (br l) (Planned.TheVariants.Fault absent)
    unfolding plan_of planned_of
    br_absent = record { is = λ codes c is_set. rw (label_none codes) }

    pub br_if_absent : Goes work k depth (br_if l) (Planned.TheVariants.Fault absent)
    unfolding plan_of planned_of
    br_if_absent = record { is = λ codes c is_set. rw (label_none codes) }

  module _ {v : Values} (e : r ≡ Some v) where
    pub label_some : (codes : List ℕ) → get_elem? (labels_at codes work k depth) l ≡ some (values_of codes v)
    label_some codes = sym (a.is codes) ∙ rw e

    pub br_planned : {p : Planned} → Stops v p → Goes work k depth (br l) p
    unfolding plan_of
    br_planned p = record { is = λ codes c is_set. rw (label_some codes, p.is codes) }

    pub br_if_planned : Goes work k depth (br_if l) (Planned.TheVariants.Plain (record { top = 3; second = 0; rest = v; back = true; gives = 0; marks = 0; stops = false }))
    unfolding plan_of planned_of plain_of
    br_if_planned =
        record { is = λ codes c is_set. rw (label_some codes, wants_i32, wants_none, gives_none, append-nil (values_of codes v)) }

pub ruleset label_exits = (loop_label, block_results_lem, label_absent_lem, label_own, label_block, br_absent, br_planned, br_if_absent, br_if_planned)
