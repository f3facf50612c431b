-- Each way out of the plans of ref.null, ref.test, ref.cast, ref.get_desc and ref.cast_desc_eq.
use Prim.Native.Nat.{ℕ, ◌+◌, ◌≤◌, ◌<◌}
use mathlib.Core.Path.{◌≡◌, sym, ap, ◌∙◌}
use mathlib.Core.Bool.{Bool, true, false, not}
use mathlib.Core.Option.{Option}
use mathlib.Core.List.{List}
use native.Mathlib.Omega.{arith}
use borrow.Author.Tests.{lt-ltb, le-ltb, not-true, not-false}
use lib.Dec.{ltb}
use mir.Syntax.{w16}
use mir.Val.{Fits}
use Rattle.scope.specs.Told.{Maybe}
use Rattle.std.specs.Prelude.{None, Some}
use Rattle.scope.specs.Refusals.{out_of_reach, bad_struct}
use Rattle.scope.specs.Abstract.{Abstract}
use Rattle.scope.specs.Syntax.{Heap, abstract, ref, Types}
use Rattle.scope.specs.Memory.{abstract_code}
use Rattle.scope.specs.TypeRules.{heap_names}
use Rattle.scope.specs.Lists.{every}
use Rattle.scope.specs.Instructions.{ref_null, ref_cast, ref_get_desc, ref_cast_desc_eq}
use Rattle.scope.specs.BodyRules.{top_of, descriptor_for, plan_of}
use Rattle.type_abstract.proofs.Laws.{code-small}
use Rattle.type_table.specs.View.{heap_at_code, codes_at}
use Rattle.type_table.proofs.Codes.{heap-at-code}
use Rattle.type_reach.specs.Names.{all_below}
use Rattle.body_state.specs.declared.Values
use Rattle.body_state.specs.declared.Planned.{Planned}
use Rattle.body_state.specs.declared.Planned
use Rattle.body_state.specs.State.{values_of, planned_of}
use Rattle.body_plan_parts.specs.Planning.{Follows, Anywhere, Takes, CodeIs, DescriptorOf, heap_bound}
use Rattle.body_plan_parts.proofs.Words.{wants_none, wants_value, wants_any_ref, gives_i32, gives_value}
use Rattle.body_plan_casts.specs.Casts.{Tests, DescriptorFor}
use Rattle.body_plan_casts.proofs.Targets.{reach_small}

-- the number of an abstract type is small

pub top_small : (a : Abstract) {t : ℕ} → t ≡ abstract_code a → t < heap_bound
top_small a e = rw e (let low = code-small a in omega arith)

top_is : (a : Abstract) {t : ℕ} → t ≡ abstract_code a → heap_at_code t ≡ abstract a
top_is a e = ap heap_at_code e ∙ heap-at-code (abstract a)

module _ (count : ℕ) (h : Heap) {r : Bool} (e : r ≡ all_below count (heap_names h)) where
  -- out of reach

  module _ (out : not r ≡ true) where
    unreached : every (λ x. ltb x count) (heap_names h) ≡ false
    unfolding all_below
    unreached = sym e ∙ not-true r out

    pub null_out : Anywhere count (ref_null h) (Planned.TheVariants.Fault out_of_reach)
    unfolding plan_of planned_of
    null_out = record { is = λ codes ts. record { is = λ locals results here. rw unreached } }

    pub test-out : (codes : List ℕ) (ts : Types) → Tests codes ts count h (Planned.TheVariants.Fault out_of_reach)
    unfolding plan_of planned_of
    test-out codes ts = record { is = λ n. record { is = λ locals results here. rw unreached } }

    pub cast_out : (codes : List ℕ) (ts : Types) (n : Bool) → Follows codes ts count (ref_cast n h) (Planned.TheVariants.Fault out_of_reach)
    unfolding plan_of planned_of
    cast_out codes ts n = record { is = λ locals results here. rw unreached }

    pub desc_out : (codes : List ℕ) (ts : Types) (n : Bool) → Follows codes ts count (ref_cast_desc_eq n h) (Planned.TheVariants.Fault out_of_reach)
    unfolding plan_of planned_of
    desc_out codes ts n = record { is = λ locals results here. rw unreached }

  -- in reach

  module _ (inside : not r ≡ false) where
    reached_is : every (λ x. ltb x count) (heap_names h) ≡ true
    unfolding all_below
    reached_is = sym e ∙ not-false r inside

    pub null_planned : {k : ℕ} → CodeIs (ref true h) k → {p : Planned} → Takes 0 0 (Values.TheVariants.Types 0 0) (k + 1) p → Anywhere count (ref_null h) p
    unfolding plan_of values_of codes_at
    null_planned made takes =
        record {
          is = λ codes ts.
              record { is = λ locals results here. rw (reached_is, takes.is codes, wants_none, gives_value made.small, made.is) };
        }

    module _ (codes : List ℕ) (ts : Types) {t : ℕ} (g : t ≡ abstract_code (top_of ts h)) {j : ℕ} (object : CodeIs (ref true (heap_at_code t)) j) {p : Planned} where
      pub test_planned : Takes (j + 3) 0 (Values.TheVariants.Types 0 0) 1 p → Tests codes ts count h p
      unfolding plan_of values_of codes_at
      test_planned takes =
          record {
            is = λ n.
                record {
                  is = λ locals results here.
                      rw (reached_is, takes.is codes, wants_value j, object.is, top_is (top_of ts h) g, wants_none, gives_i32);
                };
          }

      pub cast_planned : (n : Bool) {k : ℕ} → CodeIs (ref n h) k → Takes (j + 3) 0 (Values.TheVariants.Types 0 0) (k + 1) p → Follows codes ts count (ref_cast n h) p
      unfolding plan_of values_of codes_at
      cast_planned n made takes =
          record {
            is = λ locals results here.
                rw (reached_is, takes.is codes, wants_value j, object.is, top_is (top_of ts h) g, wants_none, gives_value made.small, made.is);
          }

    module _ (codes : List ℕ) (ts : Types) {d : Maybe ℕ} (b : DescriptorFor (descriptor_for ts h) d) (n : Bool) where
      pub desc_undescribed : d ≡ None → Follows codes ts count (ref_cast_desc_eq n h) (Planned.TheVariants.Fault bad_struct)
      unfolding plan_of planned_of
      desc_undescribed q = record { is = λ locals results here. rw (reached_is, ← b.is, q) }

      pub desc_planned : {y : ℕ} → d ≡ Some y → {j : ℕ} → CodeIs (ref true (heap_at_code y)) j → {k : ℕ} → CodeIs (ref n h) k → {p : Planned} → Takes (j + 3) 18 (Values.TheVariants.Types 0 0) (k + 1) p → Follows codes ts count (ref_cast_desc_eq n h) p
      unfolding plan_of values_of codes_at
      desc_planned q {j} top made takes =
          record {
            is = λ locals results here.
                rw (reached_is, ← b.is, q, takes.is codes, wants_value j, top.is, wants_any_ref, gives_value made.small, made.is);
          }

pub descriptor_small : {o : Option Heap} {d : Maybe ℕ} → DescriptorFor o d → {y : ℕ} → d ≡ Some y → y < heap_bound
descriptor_small b {y} q = b.small y q

pub ruleset casting_exits = (reach_small, top_small, descriptor_small, null_out, test-out, cast_out, desc_out, null_planned, test_planned, cast_planned, desc_undescribed, desc_planned)

-- ref.get_desc

module _ (codes : List ℕ) (ts : Types) (count x : ℕ) where
  pub get_out : count ≤ x → Follows codes ts count (ref_get_desc x) (Planned.TheVariants.Fault out_of_reach)
  unfolding plan_of planned_of
  get_out h = record { is = λ locals results here. rw (le-ltb x count h) }

  module _ (h : x < count) {d : Maybe ℕ} (b : DescriptorOf (ts x).descriptor d) where
    pub get_undescribed : d ≡ None → Follows codes ts count (ref_get_desc x) (Planned.TheVariants.Fault bad_struct)
    unfolding plan_of planned_of
    get_undescribed q = record { is = λ locals results here. rw (lt-ltb x count h, ← b.is, q) }

    pub get_described : {y : ℕ} → d ≡ Some y → Follows codes ts count (ref_get_desc x) (Planned.TheVariants.Descriptor x y)
    unfolding plan_of planned_of
    get_described q = record { is = λ locals results here. rw (lt-ltb x count h, ← b.is, q) }

pub number_fits : {o : Option ℕ} {d : Maybe ℕ} → DescriptorOf o d → {y : ℕ} → d ≡ Some y → Fits w16 y
number_fits b {y} q = let low = b.small y q in record { fits = omega arith }

pub ruleset getting_exits = (number_fits, get_out, get_undescribed, get_described)
