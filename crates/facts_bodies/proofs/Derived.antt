-- A rule's derivation is a plan of the checker: each premise makes its test pass, so the rule's plan is what is left.
use Prim.Native.Nat.{ℕ}
use mathlib.Core.Path.{◌≡◌, refl, ap}
use mathlib.Core.Bool.{true}
use mathlib.Core.Option.{Option, none, some}
use mathlib.Core.List.{List, [], ◌∷◌, ◌++◌, map}
use lib.Dec.{ltb}
use Rattle.scope.specs.Syntax.{Number, Val, num, nullable}
use Rattle.scope.specs.TypeRules.{heap_names}
use Rattle.scope.specs.Refusals.{not_listed}
use Rattle.scope.specs.Numeric.{Numeric, numeric_of}
use Rattle.scope.specs.Instructions.{Cast, Op}
use Rattle.scope.specs.BodyRules.{Context, Scope, Wanted, values, Plan, allowed, need, takes, operands_of, source_of, target_of, branches, plan_of, from_top, value}
use Rattle.scope.proofs.Truths.{none_is_not-some}
use Rattle.facts_codes.specs.Numeric.{Listed}
use Rattle.facts_bodies.specs.Rules.{Branching, Rule, rule_unreachable, rule_nop, rule_return, rule_drop, rule_br, rule_br_if, rule_local_get, rule_local_set, rule_local_tee, rule_i32_const, rule_i64_const, rule_f32_const, rule_f64_const, rule_numeric, rule_ref_null, rule_ref_is_null, rule_ref_eq, rule_ref_as_non_null, rule_struct_new, rule_struct_new_default, rule_struct_get, rule_struct_set, rule_ref_test, rule_ref_cast, rule_br_on_cast, rule_br_on_cast_fail, rule_struct_new_desc, rule_struct_new_default_desc, rule_ref_get_desc, rule_ref_cast_desc_eq, rule_br_on_cast_desc_eq, rule_br_on_cast_desc_eq_fail}
use Rattle.facts_bodies.proofs.Numeric.{taken, taken_by, listed-taken}
use Rattle.facts_bodies.proofs.Premises.{same_some, all_below, append-every, number-reached-tested, heap-reached-tested, defaults_tested, set_tested, cast_takes-tested, last_found, Ordered}
use Rattle.facts_bodies.proofs.Apart.{only_top, only_rest}
use Rattle.facts_bodies.proofs.Hierarchies.{shares_tested}

module _ (c : Context) (here : Scope) (ordered : Ordered c.types) where
  names-reached : {k : Cast} {carried : Val} {vs : List Val}
      → Branching c here k carried vs
      → all_below c.count (heap_names k.source ++ heap_names k.target) ≡ true
  names-reached {k} b =
      let source = heap-reached-tested c.count b.source_reached in
      let target = heap-reached-tested c.count b.target_reached in
      append-every (λ x. ltb x c.count) (heap_names k.source) _ source target

  branch_allowed : (k : Cast) (carried falls : Val) (first : List Wanted) {vs : List Val} (b : Branching c here k carried vs)
      → branches c first k carried falls (vs ++ b.last ∷ []) ≡ takes (first ++ value (source_of k) ∷ from_top vs) (values (vs ++ falls ∷ []))
  branch_allowed k carried falls first {vs} b =
      rw (shares_tested ordered b.shared, last_found vs b.last, ordered.tested carried b.last b.takes_carried)

  -- a numeric code in the list is planned as its line says
  numeric_derived : {b : ℕ} {ks : List Number} {r : Number} → Listed b ks r
      → need (numeric_of b) not_listed (λ kinds. takes (operands_of kinds) (values (num kinds.result ∷ []))) ≡ takes (from_top (map num ks)) (values (num r ∷ []))
  numeric_derived {b} {ks} {r} among = go (numeric_of b) (listed-taken among)
    where
      go : (o : Option Numeric) → taken_by o ≡ some (from_top (map num ks), num r)
          → need o not_listed (λ kinds. takes (operands_of kinds) (values (num kinds.result ∷ []))) ≡ takes (from_top (map num ks)) (values (num r ∷ []))
      go none e = absurd (none_is_not-some e)
      go (some kinds) e = let same : taken kinds ≡ (from_top (map num ks), num r) = same_some e in ap (λ (t : List Wanted × Val). takes t.0 (values (t.1 ∷ []))) same

  pub derived_plan : {o : Op} {p : Plan} → Rule c here o p → plan_of c here o ≡ allowed p
  unfolding plan_of
  derived_plan rule_unreachable = refl
  derived_plan rule_nop = refl
  derived_plan rule_return = refl
  derived_plan rule_drop = refl
  derived_plan (rule_br label) = rw label
  derived_plan (rule_br_if label) = rw label
  derived_plan (rule_local_get {x = x} local is_set) = rw (local, set_tested here.is_set x is_set)
  derived_plan (rule_local_set local) = rw local
  derived_plan (rule_local_tee local) = rw local
  derived_plan rule_i32_const = refl
  derived_plan rule_i64_const = refl
  derived_plan rule_f32_const = refl
  derived_plan rule_f64_const = refl
  derived_plan (rule_numeric among) = numeric_derived among
  derived_plan (rule_ref_null in_reach) = rw (heap-reached-tested c.count in_reach)
  derived_plan rule_ref_is_null = refl
  derived_plan rule_ref_eq = refl
  derived_plan rule_ref_as_non_null = refl
  derived_plan (rule_struct_new s none_there_lem) = rw (number-reached-tested c.count s.in_reach, s.form, none_there_lem)
  derived_plan (rule_struct_new_default s none_there_lem defaults) = rw (number-reached-tested c.count s.in_reach, s.form, none_there_lem, defaults_tested defaults)
  derived_plan (rule_struct_get f) = rw (number-reached-tested c.count f.is_struct.in_reach, f.is_struct.form, f.present)
  derived_plan (rule_struct_set f mutable) = rw (number-reached-tested c.count f.is_struct.in_reach, f.is_struct.form, f.present, mutable)
  derived_plan (rule_ref_test {h = h} in_reach top) = rw (heap-reached-tested c.count in_reach, only_top ordered h top)
  derived_plan (rule_ref_cast {h = h} in_reach top) = rw (heap-reached-tested c.count in_reach, only_top ordered h top)
  derived_plan (rule_br_on_cast {k = k} {rest = v} r b) = rw (names-reached b, b.label, only_rest k r) (branch_allowed k (target_of k) v [] b)
  derived_plan (rule_br_on_cast_fail {k = k} {rest = v} r b) = rw (names-reached b, b.label, only_rest k r) (branch_allowed k v (target_of k) [] b)
  derived_plan (rule_struct_new_desc s described) = rw (number-reached-tested c.count s.in_reach, s.form, described)
  derived_plan (rule_struct_new_default_desc s described defaults) = rw (number-reached-tested c.count s.in_reach, s.form, described, defaults_tested defaults)
  derived_plan (rule_ref_get_desc in_reach described) = rw (number-reached-tested c.count in_reach, described)
  derived_plan (rule_ref_cast_desc_eq in_reach d) = rw (heap-reached-tested c.count in_reach, cast_takes-tested c.types d)
  derived_plan (rule_br_on_cast_desc_eq {k = k} {rest = v} {d = d} r b t) =
      rw (names-reached b, b.label, cast_takes-tested c.types t, only_rest k r) (branch_allowed k (target_of k) v (value (nullable d) ∷ []) b)
  derived_plan (rule_br_on_cast_desc_eq_fail {k = k} {rest = v} {d = d} r b t) =
      rw (names-reached b, b.label, cast_takes-tested c.types t, only_rest k r) (branch_allowed k v (target_of k) (value (nullable d) ∷ []) b)
