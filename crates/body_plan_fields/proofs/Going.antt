-- Each way out of the search for one field of a struct, and of the plans that go to it.
use Prim.Native.Nat.{ℕ, ◌+◌, ◌/◌, ◌%◌, ◌≤◌, ◌<◌, ◌^◌}
use mathlib.Core.Path.{◌≡◌, sym, ◌∙◌}
use mathlib.Core.Bool.{true, ◌&&◌}
use mathlib.Core.List.{List, [], ◌∷◌}
use native.Mathlib.Omega.{arith}
use lib.ListN.{get_elem?}
use lib.Dec.{ltb}
use borrow.Author.Tests.{eq-eqb, ne_eqb}
use mir.Syntax.{w16}
use mir.Val.{Fits}
use Rattle.scope.specs.Refusals.{out_of_reach, bad_struct, field_fixed}
use Rattle.scope.specs.Syntax.{defined, ref, Val, nullable, Types}
use Rattle.scope.specs.Instructions.{struct_get, struct_set}
use Rattle.scope.specs.BodyRules.{Scope, value, values, allowed, fault, test, need, and_ruled, takes, changeable, fields_of, plan_of}
use Rattle.scope.proofs.Impossible.{impossible}
use Rattle.lent_u16.specs.Words.{WordAt}
use Rattle.type_table.specs.View.{field_at_code, codes_at}
use Rattle.body_state.specs.declared.Values
use Rattle.body_state.specs.declared.Planned.{Planned}
use Rattle.body_state.specs.declared.Planned
use Rattle.body_state.specs.Layout.{code_bound}
use Rattle.body_state.specs.State.{values_of, planned_of}
use Rattle.body_state.proofs.Answers.{codes_there, codes-beyond}
use Rattle.body_plan_parts.specs.Planning.{context_on, Follows, Takes, CodeIs}
use Rattle.body_plan_parts.proofs.Steps.{found_then, need-then}
use Rattle.body_plan_parts.proofs.Words.{wants_none, wants_value, gives_none, gives_value}
use Rattle.body_plan_structs.specs.declared.Fields.{Fields}
use Rattle.body_plan_structs.specs.declared.Fields
use Rattle.body_plan_fields.specs.declared.Field.{Field}
use Rattle.body_plan_fields.specs.declared.Field
use Rattle.body_plan_fields.specs.OneField.{field_ruled, field_at, FieldOf}
use Rattle.body_plan_structs.specs.Structs.{struct_at, StructOf}
use Rattle.body_plan_structs.proofs.Finding.{struct_refused, struct_found}

-- field_of

module _ {codes : List ℕ} {ts : Types} {count x : ℕ} {r : Fields} (a : StructOf codes ts count x r) where
  module _ {first n : ℕ} (q : r ≡ Fields.TheVariants.Are first n) where
    pub field_there : (i : ℕ) → i < n → {c : ℕ} → WordAt codes (first + i) c → FieldOf ts count x i (Field.TheVariants.Is c)
    unfolding field_at field_ruled
    field_there i h {c} w =
        record {
          is = rw (struct_found a q, codes_there field_at_code codes first n i h, w.is);
          low = λ k f. let same : c ≡ k = cc in (a.low first n q, rw (← same) w.small);
        }

    pub field_beyond : (i : ℕ) → n ≤ i → FieldOf ts count x i (Field.TheVariants.Fault bad_struct)
    unfolding field_at field_ruled
    field_beyond i h =
        record {
          is = rw (struct_found a q, codes-beyond field_at_code codes first n i h);
          low = λ k f. impossible cc;
        }

  pub field_refused : (i : ℕ) {m : ℕ} → r ≡ Fields.TheVariants.Fault m → FieldOf ts count x i (Field.TheVariants.Fault m)
  unfolding field_at field_ruled
  field_refused i q =
      record { is = rw (struct_refused a q); low = λ k f. impossible cc }

pub ruleset found_exits = (field_there, field_beyond, field_refused)

-- struct.get and struct.set

pub get_is : (ts : Types) (count x i : ℕ) (locals results : List Val) (here : Scope) → plan_of (context_on ts count locals results) here (struct_get x i)
    ≡ and_ruled (field_at ts count x i) (λ f. takes (value (nullable (defined x)) ∷ []) (values (f.holds ∷ [])))
unfolding plan_of field_at struct_at
get_is ts count x i locals results here =
    found_then (ltb x count && true) out_of_reach (fields_of (ts x).form) bad_struct _ ∙ need-then (test (ltb x count && true) out_of_reach (need (fields_of (ts x).form) bad_struct allowed)) (λ fs. get_elem? fs i) bad_struct _

pub set_is : (ts : Types) (count x i : ℕ) (locals results : List Val) (here : Scope) → plan_of (context_on ts count locals results) here (struct_set x i)
    ≡ and_ruled (field_at ts count x i) (λ f. changeable f (takes (value f.holds ∷ value (nullable (defined x)) ∷ []) (values [])))
unfolding plan_of field_at struct_at
set_is ts count x i locals results here =
    found_then (ltb x count && true) out_of_reach (fields_of (ts x).form) bad_struct _ ∙ need-then (test (ltb x count && true) out_of_reach (need (fields_of (ts x).form) bad_struct allowed)) (λ fs. get_elem? fs i) bad_struct _

module _ {ts : Types} {count x i : ℕ} {r : Field} (a : FieldOf ts count x i r) where
  refused_is : {m : ℕ} → r ≡ Field.TheVariants.Fault m → field_at ts count x i ≡ fault m
  unfolding field_ruled
  refused_is q = sym a.is ∙ rw q

  pub get_refused : (codes : List ℕ) {m : ℕ} → r ≡ Field.TheVariants.Fault m → Follows codes ts count (struct_get x i) (Planned.TheVariants.Fault m)
  unfolding planned_of
  get_refused codes q = record { is = λ locals results here. rw (get_is ts count x i locals results here, refused_is q) }

  pub set_refused : (codes : List ℕ) {m : ℕ} → r ≡ Field.TheVariants.Fault m → Follows codes ts count (struct_set x i) (Planned.TheVariants.Fault m)
  unfolding planned_of
  set_refused codes q = record { is = λ locals results here. rw (set_is ts count x i locals results here, refused_is q) }

  module _ {c : ℕ} (q : r ≡ Field.TheVariants.Is c) where
    pub found_is : field_at ts count x i ≡ allowed (field_at_code c)
    unfolding field_ruled
    found_is = sym a.is ∙ rw q

    pub field_small : Fits w16 count → x < 2 ^ 16
    field_small f = let low = (a.low c q).0 in let few : count < 2 ^ 16 = f.fits in omega arith

    module _ (codes : List ℕ) {k : ℕ} (object : CodeIs (ref true (defined x)) k) {p : Planned} where
      pub get_planned : Takes (k + 3) 0 (Values.TheVariants.Types 0 0) (c / 2 + 1) p → Follows codes ts count (struct_get x i) p
      unfolding values_of codes_at field_at_code
      get_planned t =
          let small : c / 2 < code_bound = omega (arith, (a.low c q).1) in
          record {
            is = λ locals results here.
                rw (get_is ts count x i locals results here, found_is, t.is codes, wants_value k, object.is, wants_none, gives_value small);
          }

      pub set_planned : c % 2 ≡ 1 → Takes (c / 2 + 3) (k + 3) (Values.TheVariants.Types 0 0) 0 p → Follows codes ts count (struct_set x i) p
      unfolding values_of codes_at field_at_code
      set_planned odd t =
          record {
            is = λ locals results here.
                rw (set_is ts count x i locals results here, found_is, eq-eqb (c % 2) 1 odd, t.is codes, wants_value k, wants_value (c / 2), object.is, gives_none);
          }

    pub set-fixed : (codes : List ℕ) → (c % 2 ≡ 1 → ⊥) → Follows codes ts count (struct_set x i) (Planned.TheVariants.Fault field_fixed)
    unfolding planned_of field_at_code
    set-fixed codes even = record { is = λ locals results here. rw (set_is ts count x i locals results here, found_is, ne_eqb (c % 2) 1 even) }

pub ruleset field_exits = (get_refused, set_refused, field_small, get_planned, set_planned, set-fixed)
