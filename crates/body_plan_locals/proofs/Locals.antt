-- Each way out of the plans of local.get, local.set and local.tee.
use Prim.Native.Nat.{ℕ, zero, suc, ◌+◌, ◌-◌, ◌<◌, ◌^◌}
use mathlib.Core.Path.{◌≡◌, sym, ap, ◌∙◌}
use mathlib.Core.Bool.{Bool, true, false, not}
use mathlib.Core.Logic.{◌⊎◌, inl, inr}
use mathlib.Core.Option.{none, some}
use mathlib.Core.List.{List}
use native.Mathlib.Omega.{arith}
use native.Mathlib.Nat.{add-zero, zero-add}
use lib.ListN.{get_or, get_elem?}
use lib.Dec.{ltb}
use borrow.Author.Tests.{ltb-true, ltb-false, not-true, not-false, ne_eqb}
use mir.Syntax.{w16, w32, w64}
use mir.Val.{Fits}
use Rattle.scope.specs.Told.{Maybe}
use Rattle.std.specs.Prelude.{None, Some}
use Rattle.scope.specs.Refusals.{absent, not_set}
use Rattle.scope.specs.Instructions.{local_get, local_set, local_tee}
use Rattle.scope.specs.BodyRules.{plan_of}
use Rattle.scope.proofs.Truths.{decided, none_is_not-some}
use Rattle.type_table.specs.View.{val_at_code, codes_at, link_at}
use Rattle.body_state.specs.declared.Values
use Rattle.body_state.specs.declared.Planned.{Planned}
use Rattle.body_state.specs.declared.Planned
use Rattle.body_state.specs.State.{val_at_word, values_of, plain_of, planned_of, is_set_at, sets_at, LocalOf}
use Rattle.body_state.proofs.Answers.{codes-beyond}
use Rattle.body_plan_parts.specs.Planning.{Takes}
use Rattle.body_plan_parts.proofs.Words.{wants_none, wants_value, gives_none, gives_value}
use Rattle.body_plan_locals.specs.Uses.{Uses, Sets}

sets_there : (work : List ℕ) (m i n x : ℕ) → x < n → get_or (sets_at work m i n) x false ≡ is_set_at work m (i + x)
unfolding sets_at
sets_there work m i zero x h = absurd (omega arith)
sets_there work m i (suc n) zero h = rw add-zero
sets_there work m i (suc n) (suc x) h =
    let same : i + 1 + x ≡ i + suc x = omega arith in
    sets_there work m (i + 1) n x (omega arith) ∙ ap (is_set_at work m) same

marked_is : (x : ℕ) → link_at (x + 1) ≡ some x
marked_is x = let less : x + 1 - 1 ≡ x = omega arith in rw (ne_eqb (x + 1) 0 (λ e. omega arith), less)

module _ {work : List ℕ} {count x : ℕ} {r : Maybe ℕ} (a : LocalOf work count x r) where
  absent_is : r ≡ None → get_elem? (codes_at val_at_word work 0 count) x ≡ none
  absent_is e = sym a.is ∙ rw e

  module _ (e : r ≡ None) where
    pub get_absent : (is_set : List Bool) → Uses (codes_at val_at_word work 0 count) is_set (local_get x) (Planned.TheVariants.Fault absent)
    unfolding plan_of planned_of
    get_absent is_set = record { is = λ codes ts count results labels. rw (absent_is e) }

    pub set-absent : Sets (codes_at val_at_word work 0 count) (local_set x) (Planned.TheVariants.Fault absent)
    unfolding plan_of planned_of
    set-absent = record { is = λ is_set. record { is = λ codes ts count results labels. rw (absent_is e) } }

    pub tee_absent : Sets (codes_at val_at_word work 0 count) (local_tee x) (Planned.TheVariants.Fault absent)
    unfolding plan_of planned_of
    tee_absent = record { is = λ is_set. record { is = λ codes ts count results labels. rw (absent_is e) } }

  module _ {c : ℕ} (e : r ≡ Some c) where
    type_is : get_elem? (codes_at val_at_word work 0 count) x ≡ some (val_at_code c)
    type_is = sym a.is ∙ rw e

    local_low : x < count
    local_low = go (decided (ltb x count))
      where
        go : (ltb x count ≡ true) ⊎ (ltb x count ≡ false) → x < count
        go (inl p) = ltb-true x count p
        go (inr p) = absurd (none_is_not-some (sym (codes-beyond val_at_word work 0 count x (ltb-false x count p)) ∙ type_is))

    pub local_fits : Fits w16 count → Fits w32 x
    local_fits f = let few : count < 2 ^ 16 = f.fits in let low = local_low in record { fits = omega arith }

    pub mark_fits : Fits w16 count → Fits w64 (x + 1)
    mark_fits f = let few : count < 2 ^ 16 = f.fits in let low = local_low in record { fits = omega arith }

    pub given-fits : Fits w64 (c + 1)
    given-fits = let small = a.small c e in record { fits = omega arith }

    pub wanted_fits : Fits w64 (c + 3)
    wanted_fits = let small = a.small c e in record { fits = omega arith }

    module _ (m : ℕ) {s : Bool} (b : s ≡ is_set_at work m x) where
      set_is : get_or (sets_at work m 0 count) x false ≡ s
      set_is = sets_there work m 0 count x local_low ∙ ap (is_set_at work m) (zero-add x) ∙ sym b

      pub get_unset : not s ≡ true → Uses (codes_at val_at_word work 0 count) (sets_at work m 0 count) (local_get x) (Planned.TheVariants.Fault not_set)
      unfolding plan_of planned_of
      get_unset t = record { is = λ codes ts count results labels. rw (type_is, set_is, not-true s t) }

      pub get_planned : not s ≡ false → {p : Planned} → Takes 0 0 (Values.TheVariants.Types 0 0) (c + 1) p → Uses (codes_at val_at_word work 0 count) (sets_at work m 0 count) (local_get x) p
      unfolding plan_of values_of codes_at
      get_planned t takes =
          record {
            is = λ codes ts count results labels.
                rw (type_is, set_is, not-false s t, takes.is codes, wants_none, gives_value (a.small c e));
          }

    pub set_planned : Sets (codes_at val_at_word work 0 count) (local_set x) (Planned.TheVariants.Plain (record { top = c + 3; second = 0; rest = Values.TheVariants.Types 0 0; back = false; gives = 0; marks = x + 1; stops = false }))
    unfolding plan_of planned_of plain_of values_of codes_at
    set_planned =
        record {
          is = λ is_set.
              record { is = λ codes ts count results labels. rw (type_is, wants_value c, wants_none, gives_none, marked_is x) };
        }

    pub tee_planned : Sets (codes_at val_at_word work 0 count) (local_tee x) (Planned.TheVariants.Plain (record { top = c + 3; second = 0; rest = Values.TheVariants.Types 0 0; back = false; gives = c + 1; marks = x + 1; stops = false }))
    unfolding plan_of planned_of plain_of values_of codes_at
    tee_planned =
        record {
          is = λ is_set.
              record {
                is = λ codes ts count results labels.
                    rw (type_is, wants_value c, wants_none, gives_value (a.small c e), marked_is x);
              };
        }

pub ruleset local_exits = (get_absent, set-absent, tee_absent, local_fits, mark_fits, given-fits, wanted_fits, get_unset, get_planned, set_planned, tee_planned)
