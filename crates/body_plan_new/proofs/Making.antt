-- Each way out of the plans that make a struct of the fields on the stack.
use Prim.Native.Nat.{ℕ, ◌+◌}
use mathlib.Core.Path.{◌≡◌, ◌∙◌}
use mathlib.Core.Bool.{true, false, ◌&&◌}
use mathlib.Core.List.{List, [], ◌∷◌}
use lib.Dec.{ltb}
use Rattle.scope.specs.Refusals.{out_of_reach, bad_struct}
use Rattle.scope.specs.Lists.{is_none}
use Rattle.scope.specs.Syntax.{exact, Val, ref, nullable, non_null, Types}
use Rattle.scope.specs.Instructions.{struct_new, struct_new_desc}
use Rattle.scope.specs.BodyRules.{Scope, value, values, and_ruled, takes, from_top, fields_of, holds_of, plan_of}
use Rattle.body_state.specs.declared.Values
use Rattle.body_state.specs.declared.Planned.{Planned}
use Rattle.body_state.specs.declared.Planned
use Rattle.body_state.specs.State.{values_of, planned_of}
use Rattle.body_plan_parts.specs.Planning.{context_on, Follows, Takes, CodeIs}
use Rattle.body_plan_parts.proofs.Steps.{found_then, test-then, pair_then}
use Rattle.body_plan_parts.proofs.Words.{wants_none, wants_value, gives_value}
use Rattle.body_plan_structs.specs.declared.Fields.{Fields}
use Rattle.body_plan_structs.specs.declared.Fields
use Rattle.body_plan_structs.specs.declared.Pair.{Pair}
use Rattle.body_plan_structs.specs.declared.Pair
use Rattle.body_plan_structs.specs.Structs.{struct_at, undescribed_at, described_at, Undescribed, Described}
use Rattle.body_plan_structs.proofs.Describing.{no_fields, fields_are, struct_small, no-pair, pair_is, described-small, descriptor_small}

-- what each rule asks of the struct that was found

module _ (ts : Types) (count x : ℕ) (locals results : List Val) (here : Scope) where
  pub new_is : plan_of (context_on ts count locals results) here (struct_new x)
      ≡ and_ruled (undescribed_at ts count x) (λ fs. takes (from_top (holds_of fs)) (values (non_null (exact x) ∷ [])))
  unfolding plan_of struct_at undescribed_at
  new_is = found_then (ltb x count && true) out_of_reach (fields_of (ts x).form) bad_struct _ ∙ test-then (struct_at ts count x) (is_none (ts x).descriptor) bad_struct _

  pub desc_is : plan_of (context_on ts count locals results) here (struct_new_desc x)
      ≡ and_ruled (described_at ts count x) (λ p. takes (value (nullable (exact p.1)) ∷ from_top (holds_of p.0)) (values (non_null (exact x) ∷ [])))
  unfolding plan_of struct_at described_at
  desc_is =
      found_then (ltb x count && true) out_of_reach (fields_of (ts x).form) bad_struct _
      ∙ pair_then (struct_at ts count x) (ts x).descriptor bad_struct (λ fs y. takes (value (nullable (exact y)) ∷ from_top (holds_of fs)) (values (non_null (exact x) ∷ [])))

-- struct.new

module _ {codes : List ℕ} {ts : Types} {count x : ℕ} {r : Fields} (a : Undescribed codes ts count x r) where
  module _ {m : ℕ} (q : r ≡ Fields.TheVariants.Fault m) where
    pub new_refused : Follows codes ts count (struct_new x) (Planned.TheVariants.Fault m)
    unfolding planned_of
    new_refused = record { is = λ locals results here. rw (new_is ts count x locals results here, no_fields a q) }

  module _ {first n : ℕ} (q : r ≡ Fields.TheVariants.Are first n) where
    pub new_planned : {k : ℕ} → CodeIs (ref false (exact x)) k → {p : Planned} → Takes 0 0 (Values.TheVariants.Fields first n) (k + 1) p → Follows codes ts count (struct_new x) p
    unfolding values_of
    new_planned made takes =
        record {
          is = λ locals results here.
              rw (new_is ts count x locals results here, fields_are a q, takes.is codes, wants_none, gives_value made.small, made.is);
        }

-- the same with a descriptor

module _ {codes : List ℕ} {ts : Types} {count x : ℕ} {r : Pair} (a : Described codes ts count x r) where
  module _ {m : ℕ} (q : r ≡ Pair.TheVariants.Fault m) where
    pub desc_refused : Follows codes ts count (struct_new_desc x) (Planned.TheVariants.Fault m)
    unfolding planned_of
    desc_refused = record { is = λ locals results here. rw (desc_is ts count x locals results here, no-pair a q) }

  module _ {first n y : ℕ} (q : r ≡ Pair.TheVariants.Are first n y) where
    module _ {j : ℕ} (top : CodeIs (ref true (exact y)) j) where
      pub desc_planned : {k : ℕ} → CodeIs (ref false (exact x)) k → {p : Planned} → Takes (j + 3) 0 (Values.TheVariants.Fields first n) (k + 1) p → Follows codes ts count (struct_new_desc x) p
      unfolding values_of
      desc_planned made takes =
          record {
            is = λ locals results here.
                rw (desc_is ts count x locals results here, pair_is a q, takes.is codes, wants_value j, top.is, wants_none, gives_value made.small, made.is);
          }

pub ruleset making_exits = (new_refused, struct_small, new_planned, desc_refused, described-small, descriptor_small, desc_planned)
