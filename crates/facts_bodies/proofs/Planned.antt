-- A plan of the checker is a rule's derivation: the tests of an instruction, taken apart one after the other, are the rule's
-- premises.
use Prim.Native.Nat.{ℕ}
use mathlib.Core.Path.{◌≡◌, ◌∙◌, ap, sym, subst}
use mathlib.Core.Option.{Option, none, some}
use mathlib.Core.List.{List, [], ◌∷◌, ◌++◌}
use lib.ListN.{get_elem?}
use Rattle.scope.specs.Lists.{is_none}
use Rattle.scope.specs.Syntax.{Heap, Val, num, nullable, Field}
use Rattle.scope.specs.TypeRules.{heap_names}
use Rattle.scope.specs.Numeric.{Numeric, numeric_of}
use Rattle.scope.specs.Instructions.{Cast, Op, unreachable, nop, return, drop_value, br, br_if, local_get, local_set, local_tee, i32_const, i64_const, f32_const, f64_const, numeric, ref_null, ref_is_null, ref_eq, ref_as_non_null, struct_new, struct_new_default, struct_get, struct_set, ref_test, ref_cast, br_on_cast, br_on_cast_fail, struct_new_desc, struct_new_default_desc, ref_get_desc, ref_cast_desc_eq, br_on_cast_desc_eq, br_on_cast_desc_eq_fail}
use Rattle.scope.specs.BodyRules.{Context, Scope, Wanted, values, Plan, Ruled, allowed, takes, operands_of, holds_of, last_of, source_of, target_of, rest_of, reached, struct_of, field_of, undescribed, defaulted, cast_reached, branches, plan_of, from_top, value}
use Rattle.scope.proofs.Order.{tested_value_order}
use Rattle.facts_codes.proofs.Numeric.{numeric-listed}
use Rattle.facts_bodies.specs.Premises.{Each, HeapReached, Default}
use Rattle.facts_bodies.specs.Rules.{StructType, FieldOf, Branching, Rule, rule_unreachable, rule_nop, rule_return, rule_drop, rule_br, rule_br_if, rule_local_get, rule_local_set, rule_local_tee, rule_i32_const, rule_i64_const, rule_f32_const, rule_f64_const, rule_numeric, rule_ref_null, rule_ref_is_null, rule_ref_eq, rule_ref_as_non_null, rule_struct_new, rule_struct_new_default, rule_struct_get, rule_struct_set, rule_ref_test, rule_ref_cast, rule_br_on_cast, rule_br_on_cast_fail, rule_struct_new_desc, rule_struct_new_default_desc, rule_ref_get_desc, rule_ref_cast_desc_eq, rule_br_on_cast_desc_eq, rule_br_on_cast_desc_eq_fail}
use Rattle.facts_bodies.proofs.Numeric.{taken, taken_by, line_taken, listed-taken}
use Rattle.facts_bodies.proofs.Ruled.{same_allowed, test-passed, need_met}
use Rattle.facts_bodies.proofs.Premises.{same_some, every_append, tested-number-reached, tested-heap-reached, tested_defaults, tested-set, has_fields, has_none, tested_cast_takes, found_last}
use Rattle.facts_bodies.proofs.Apart.{top_stands, rest_stands}
use Rattle.facts_bodies.proofs.Hierarchies.{tested_shares}

module _ (c : Context) (here : Scope) where
  -- the plan of an instruction is the one that its rule states
  stated : {o : Op} {p q : Plan} → Rule c here o q → allowed q ≡ allowed p → Rule c here o p
  stated {o} r e = subst (Rule c here o) (same_allowed e) r

  -- the numbers of a branching cast name types and a label
  record Named (k : Cast) (label : List Val) : Type 0 where
    source_reached : HeapReached c.count k.source
    target_reached : HeapReached c.count k.target
    labelled : get_elem? here.labels k.label ≡ some label

  -- tests that several instructions have

  struct_found : {A : Type 0} {y : A} (x : ℕ) (f : List Field → Ruled A)
      → reached c (x ∷ []) (struct_of c x f) ≡ allowed y
      → (fs : List Field) × StructType c x fs × (f fs ≡ allowed y)
  struct_found x f e =
      let (below, more) = test-passed _ _ _ e in
      let (fs, fields, rest) = need_met _ _ _ more in
      (fs, record { in_reach = tested-number-reached c.count x below; form = has_fields _ fields }, rest)

  field_found : {A : Type 0} {y : A} (x i : ℕ) (f : Field → Ruled A)
      → reached c (x ∷ []) (field_of c x i f) ≡ allowed y
      → (g : Field) × FieldOf c x i g × (f g ≡ allowed y)
  field_found x i f e =
      let (fs, is_struct, more) = struct_found x _ e in
      let (g, present, rest) = need_met _ _ _ more in
      (g, record { fields = fs; is_struct = is_struct; present = present }, rest)

  heap_found : {A : Type 0} {y : A} (h : Heap) (more : Ruled A) → reached c (heap_names h) more ≡ allowed y → HeapReached c.count h × (more ≡ allowed y)
  heap_found h more e =
      let (below, rest) = test-passed _ _ _ e in
      (tested-heap-reached c.count h below, rest)

  no_descriptor_lem : {A : Type 0} {y : A} (x : ℕ) (more : Ruled A) → undescribed c x more ≡ allowed y → ((c.types x).descriptor ≡ none) × (more ≡ allowed y)
  no_descriptor_lem x more e =
      let (is_none, rest) = test-passed _ _ _ e in
      (has_none _ is_none, rest)

  all_defaults_lem : {A : Type 0} {y : A} (fs : List Field) (more : Ruled A) → defaulted fs more ≡ allowed y → Each Default (holds_of fs) × (more ≡ allowed y)
  all_defaults_lem fs more e =
      let (passed, rest) = test-passed _ _ _ e in
      (tested_defaults (holds_of fs) passed, rest)

  cast_found : {A : Type 0} {y : A} (k : Cast) (f : List Val → Ruled A)
      → cast_reached c here k f ≡ allowed y
      → (label : List Val) × Named k label × (f label ≡ allowed y)
  cast_found k f e =
      let (below, more) = test-passed _ _ _ e in
      let (source, target) = every_append _ (heap_names k.source) _ below in
      let (vs, label, rest) = need_met _ _ _ more in
      (vs, record { source_reached = tested-heap-reached c.count _ source; target_reached = tested-heap-reached c.count _ target; labelled = label }, rest)

  branch_found : {p : Plan} (k : Cast) (carried falls : Val) (first : List Wanted) {label : List Val}
      → Named k label
      → branches c first k carried falls label ≡ allowed p
      → (vs : List Val) × Branching c here k carried vs × (takes (first ++ value (source_of k) ∷ from_top vs) (values (vs ++ falls ∷ [])) ≡ allowed p)
  branch_found k carried falls first {label} named e =
      let (related, more) = test-passed _ _ _ e in
      let (split, found, last) = need_met (last_of label) _ _ more in
      let (taken, plan) = test-passed _ _ _ last in
      let branching : Branching c here k carried split.0 =
      record {
        source_reached = named.source_reached;
        target_reached = named.target_reached;
        last = split.1;
        label = named.labelled ∙ ap some (found_last label found);
        shared = tested_shares k.source_null k.target_null k.source k.target related;
        takes_carried = tested_value_order c.types _ _ taken;
      } in
      (split.0, branching, plan)

  -- a numeric code, by its line in the list
  numeric_stated : (b : ℕ) {kinds : Numeric} {p : Plan} → numeric_of b ≡ some kinds → takes (operands_of kinds) (values (num kinds.result ∷ [])) ≡ allowed p → Rule c here (numeric b) p
  numeric_stated b {kinds} {p} is e =
      let (line, among, byte) = numeric-listed b is in
      let said : taken kinds ≡ line_taken line = same_some (sym (ap (λ (o : Option Numeric). taken_by o) is) ∙ ap (λ (n : ℕ). taken_by (numeric_of n)) (sym byte) ∙ listed-taken among) in
      let made = subst (λ (t : List Wanted × Val). takes t.0 (values (t.1 ∷ [])) ≡ allowed p) said e in
      subst (λ (n : ℕ). Rule c here (numeric n) p) byte (stated (rule_numeric among) made)

  -- instruction by instruction

  pub planned_rule : (o : Op) {p : Plan} → plan_of c here o ≡ allowed p → Rule c here o p
  unfolding plan_of
  planned_rule unreachable e = stated rule_unreachable e
  planned_rule nop e = stated rule_nop e
  planned_rule return e = stated rule_return e
  planned_rule drop_value e = stated rule_drop e
  planned_rule (br l) e = let (vs, label, plan) = need_met _ _ _ e in stated (rule_br label) plan
  planned_rule (br_if l) e = let (vs, label, plan) = need_met _ _ _ e in stated (rule_br_if label) plan
  planned_rule (local_get x) e =
      let (v, local, more) = need_met _ _ _ e in
      let (is_set, plan) = test-passed _ _ _ more in
      stated (rule_local_get local (tested-set here.is_set x is_set)) plan
  planned_rule (local_set x) e = let (v, local, plan) = need_met _ _ _ e in stated (rule_local_set local) plan
  planned_rule (local_tee x) e = let (v, local, plan) = need_met _ _ _ e in stated (rule_local_tee local) plan
  planned_rule (i32_const n) e = stated rule_i32_const e
  planned_rule (i64_const n) e = stated rule_i64_const e
  planned_rule (f32_const n) e = stated rule_f32_const e
  planned_rule (f64_const n) e = stated rule_f64_const e
  planned_rule (numeric b) e = let (kinds, is, plan) = need_met _ _ _ e in numeric_stated b is plan
  planned_rule (ref_null h) e = let (in_reach, plan) = heap_found h _ e in stated (rule_ref_null in_reach) plan
  planned_rule ref_is_null e = stated rule_ref_is_null e
  planned_rule ref_eq e = stated rule_ref_eq e
  planned_rule ref_as_non_null e = stated rule_ref_as_non_null e
  planned_rule (struct_new x) e =
      let (fs, is_struct, more) = struct_found x _ e in
      let (none_there_lem, plan) = no_descriptor_lem x _ more in
      stated (rule_struct_new is_struct none_there_lem) plan
  planned_rule (struct_new_default x) e =
      let (fs, is_struct, more) = struct_found x _ e in
      let (none_there_lem, last) = no_descriptor_lem x _ more in
      let (defaults, plan) = all_defaults_lem fs _ last in
      stated (rule_struct_new_default is_struct none_there_lem defaults) plan
  planned_rule (struct_get x i) e = let (f, is_field, plan) = field_found x i _ e in stated (rule_struct_get is_field) plan
  planned_rule (struct_set x i) e =
      let (f, is_field, more) = field_found x i _ e in
      let (mutable, plan) = test-passed _ _ _ more in
      stated (rule_struct_set is_field mutable) plan
  planned_rule (ref_test n h) e = let (in_reach, plan) = heap_found h _ e in stated (rule_ref_test in_reach (top_stands c.types h)) plan
  planned_rule (ref_cast n h) e = let (in_reach, plan) = heap_found h _ e in stated (rule_ref_cast in_reach (top_stands c.types h)) plan
  planned_rule (br_on_cast k) e =
      let (label, named, more) = cast_found k _ e in
      let (vs, branching, plan) = branch_found k _ _ [] named more in
      stated (rule_br_on_cast (rest_stands k) branching) plan
  planned_rule (br_on_cast_fail k) e =
      let (label, named, more) = cast_found k _ e in
      let (vs, branching, plan) = branch_found k _ _ [] named more in
      stated (rule_br_on_cast_fail (rest_stands k) branching) plan
  planned_rule (struct_new_desc x) e =
      let (fs, is_struct, more) = struct_found x _ e in
      let (y, described, plan) = need_met _ _ _ more in
      stated (rule_struct_new_desc is_struct described) plan
  planned_rule (struct_new_default_desc x) e =
      let (fs, is_struct, more) = struct_found x _ e in
      let (y, described, last) = need_met _ _ _ more in
      let (defaults, plan) = all_defaults_lem fs _ last in
      stated (rule_struct_new_default_desc is_struct described defaults) plan
  planned_rule (ref_get_desc x) e =
      let (below, more) = test-passed _ _ _ e in
      let (y, described, plan) = need_met _ _ _ more in
      stated (rule_ref_get_desc (tested-number-reached c.count x below) described) plan
  planned_rule (ref_cast_desc_eq n h) e =
      let (in_reach, more) = heap_found h _ e in
      let (d, found, plan) = need_met _ _ _ more in
      stated (rule_ref_cast_desc_eq in_reach (tested_cast_takes c.types h found)) plan
  planned_rule (br_on_cast_desc_eq k) e =
      let (label, named, more) = cast_found k _ e in
      let (d, found, last) = need_met _ _ _ more in
      let (vs, branching, plan) = branch_found k (target_of k) (rest_of k) (value (nullable d) ∷ []) named last in
      stated (rule_br_on_cast_desc_eq (rest_stands k) branching (tested_cast_takes c.types k.target found)) plan
  planned_rule (br_on_cast_desc_eq_fail k) e =
      let (label, named, more) = cast_found k _ e in
      let (d, found, last) = need_met _ _ _ more in
      let (vs, branching, plan) = branch_found k (rest_of k) (target_of k) (value (nullable d) ∷ []) named last in
      stated (rule_br_on_cast_desc_eq_fail (rest_stands k) branching (tested_cast_takes c.types k.target found)) plan
