-- Each way out of the plans that make a struct of defaults.
use Prim.Native.Nat.{ℕ, ◌+◌}
use mathlib.Core.Path.{◌≡◌, ◌∙◌}
use mathlib.Core.Bool.{Bool, true, false, not, ◌&&◌}
use mathlib.Core.List.{List, [], ◌∷◌, append-nil}
use lib.Dec.{ltb}
use borrow.Author.Tests.{not-true, not-false}
use Rattle.scope.specs.Refusals.{out_of_reach, bad_struct, no_default}
use Rattle.scope.specs.Lists.{is_none}
use Rattle.scope.specs.Syntax.{exact, Val, ref, nullable, non_null, Types}
use Rattle.scope.specs.Instructions.{struct_new_default, struct_new_default_desc}
use Rattle.scope.specs.BodyRules.{Scope, value, values, and_ruled, takes, fields_of, defaulted, plan_of}
use Rattle.type_table.specs.View.{codes_at}
use Rattle.body_state.specs.declared.Values
use Rattle.body_state.specs.declared.Planned.{Planned}
use Rattle.body_state.specs.declared.Planned
use Rattle.body_state.specs.State.{wants_at, values_of, planned_of}
use Rattle.body_plan_parts.specs.Planning.{context_on, Follows, Takes, CodeIs}
use Rattle.body_plan_parts.proofs.Steps.{found_then, test-then, pair_then}
use Rattle.body_plan_parts.proofs.Words.{wants_none, wants_value, gives_value}
use Rattle.body_plan_structs.specs.declared.Fields.{Fields}
use Rattle.body_plan_structs.specs.declared.Fields
use Rattle.body_plan_structs.specs.declared.Pair.{Pair}
use Rattle.body_plan_structs.specs.declared.Pair
use Rattle.body_plan_structs.specs.Structs.{struct_at, undescribed_at, described_at, Undescribed, Described}
use Rattle.body_plan_defaults.specs.Defaults.{all_default}
use Rattle.body_plan_new_default.specs.Filled.{Defaulted}
use Rattle.body_plan_structs.proofs.Describing.{no_fields, fields_are, struct_small, no-pair, pair_is, described-small, descriptor_small}

-- defaulted

module _ {codes : List ℕ} {first n : ℕ} (top x : ℕ) {r : Bool} (e : r ≡ all_default true codes first n) where
  pub defaulted-not : not r ≡ true → Defaulted codes first n top x (Planned.TheVariants.Fault no_default)
  unfolding planned_of
  defaulted-not t = record { is = rw (← e, not-true r t) }

  pub defaulted_all : not r ≡ false → {k : ℕ} → CodeIs (ref false (exact x)) k → {p : Planned} → Takes top 0 (Values.TheVariants.Types 0 0) (k + 1) p → Defaulted codes first n top x p
  unfolding values_of codes_at
  defaulted_all t {k} made {p} takes =
      record { is = rw (← e, not-false r t, takes.is codes, wants_none, gives_value made.small, made.is, append-nil (wants_at top)) }

-- what each rule asks of the struct that was found

module _ (ts : Types) (count x : ℕ) (locals results : List Val) (here : Scope) where
  pub default_is : plan_of (context_on ts count locals results) here (struct_new_default x)
      ≡ and_ruled (undescribed_at ts count x) (λ fs. defaulted fs (takes [] (values (non_null (exact x) ∷ []))))
  unfolding plan_of struct_at undescribed_at
  default_is = found_then (ltb x count && true) out_of_reach (fields_of (ts x).form) bad_struct _ ∙ test-then (struct_at ts count x) (is_none (ts x).descriptor) bad_struct _

  pub default_desc_is : plan_of (context_on ts count locals results) here (struct_new_default_desc x)
      ≡ and_ruled (described_at ts count x) (λ p. defaulted p.0 (takes (value (nullable (exact p.1)) ∷ []) (values (non_null (exact x) ∷ []))))
  unfolding plan_of struct_at described_at
  default_desc_is =
      found_then (ltb x count && true) out_of_reach (fields_of (ts x).form) bad_struct _
      ∙ pair_then (struct_at ts count x) (ts x).descriptor bad_struct (λ fs y. defaulted fs (takes (value (nullable (exact y)) ∷ []) (values (non_null (exact x) ∷ []))))

-- struct.new_default

module _ {codes : List ℕ} {ts : Types} {count x : ℕ} {r : Fields} (a : Undescribed codes ts count x r) where
  module _ {m : ℕ} (q : r ≡ Fields.TheVariants.Fault m) where
    pub default_refused : Follows codes ts count (struct_new_default x) (Planned.TheVariants.Fault m)
    unfolding planned_of
    default_refused = record { is = λ locals results here. rw (default_is ts count x locals results here, no_fields a q) }

  module _ {first n : ℕ} (q : r ≡ Fields.TheVariants.Are first n) where
    pub default_planned : {p : Planned} → Defaulted codes first n 0 x p → Follows codes ts count (struct_new_default x) p
    unfolding all_default
    default_planned p =
        record { is = λ locals results here. rw (default_is ts count x locals results here, fields_are a q, p.is, wants_none) }

-- the same with a descriptor

module _ {codes : List ℕ} {ts : Types} {count x : ℕ} {r : Pair} (a : Described codes ts count x r) where
  module _ {m : ℕ} (q : r ≡ Pair.TheVariants.Fault m) where
    pub default_desc_refused : Follows codes ts count (struct_new_default_desc x) (Planned.TheVariants.Fault m)
    unfolding planned_of
    default_desc_refused = record { is = λ locals results here. rw (default_desc_is ts count x locals results here, no-pair a q) }

  module _ {first n y : ℕ} (q : r ≡ Pair.TheVariants.Are first n y) where
    module _ {j : ℕ} (top : CodeIs (ref true (exact y)) j) where
      pub default_desc_planned : {p : Planned} → Defaulted codes first n (j + 3) x p → Follows codes ts count (struct_new_default_desc x) p
      unfolding all_default
      default_desc_planned p =
          record {
            is = λ locals results here.
                rw (default_desc_is ts count x locals results here, pair_is a q, p.is, wants_value j, top.is);
          }

pub ruleset filling_exits = (defaulted-not, defaulted_all, default_refused, struct_small, default_planned, default_desc_refused, described-small, descriptor_small, default_desc_planned)
