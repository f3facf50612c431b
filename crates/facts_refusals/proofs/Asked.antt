-- The tests of an instruction before its operands are the questions of specs/Instructions.antt, one for one and in the same
-- order: each test passes exactly when its question is answered with yes.
use Prim.Native.Nat.{ℕ}
use mathlib.Core.Path.{◌≡◌, sym, ◌∙◌, ap}
use mathlib.Core.Bool.{true}
use mathlib.Core.Option.{Option, none, some}
use mathlib.Core.List.{List, [], ◌∷◌, ◌++◌}
use lib.ListN.{get_elem?}
use lib.Dec.{ltb}
use Rattle.scope.specs.Lists.{every}
use Rattle.scope.specs.Syntax.{Heap, Val, nullable, Field, Form, struct, Types}
use Rattle.scope.specs.TypeRules.{heap_names}
use Rattle.scope.specs.Order.{val_below}
use Rattle.scope.specs.Numeric.{numeric_of}
use Rattle.scope.specs.Instructions.{Cast, Op, unreachable, nop, return, drop_value, br, br_if, local_get, local_set, local_tee, i32_const, i64_const, f32_const, f64_const, numeric, ref_null, ref_is_null, ref_eq, ref_as_non_null, struct_new, struct_new_default, struct_get, struct_set, ref_test, ref_cast, br_on_cast, br_on_cast_fail, struct_new_desc, struct_new_default_desc, ref_get_desc, ref_cast_desc_eq, br_on_cast_desc_eq, br_on_cast_desc_eq_fail}
use Rattle.scope.specs.BodyRules.{Context, Scope, Wanted, value, Ruled, fields_of, holds_of, has_default, descriptor_for, last_of, target_of, rest_of, reached, labelled, local_of, struct_of, field_of, undescribed, described, cast_descriptor, changeable, branches, defaulted, already_set, cast_reached, plan_of}
use Rattle.scope.proofs.Truths.{none_is_not-some}
use Rattle.scope.proofs.Order.{tested_value_order}
use Rattle.facts_codes.specs.Numeric.{typed_of}
use Rattle.facts_codes.specs.Proper.{CodeListed, code_listed}
use Rattle.facts_codes.proofs.Numeric.{listed-typed}
use Rattle.facts_codes.proofs.Proper.{listed_at}
use Rattle.facts_sections.specs.FirstFault.{Rule}
use Rattle.facts_types.specs.TypeRelations.{IsStruct, a_struct}
use Rattle.facts_bodies.specs.Premises.{Each, of_none, of_first, HeapReached, Default}
use Rattle.facts_bodies.proofs.Premises.{same_some, all_below, every_append, append-every, tested-number-reached, number-reached-tested, tested-heap-reached, heap-reached-tested, tested_defaults, defaults_tested, tested-set, set_tested, has_fields, has_none, tested_cast_takes, cast_takes-tested, found_last, last_found, Ordered}
use Rattle.facts_bodies.proofs.Hierarchies.{tested_shares, shares_tested}
use Rattle.facts_refusals.specs.Instructions.{heaps_reached, type_reached, label_there, local_there, is_struct, has_field, no_descriptor, has_descriptor, cast_described, field_mutable, supertype_shared, label_has_types, label_takes, all_defaults, local_is_set, Present, present, HasField, has_field_lem, Named, named, CastDescribed, cast_described_lem, FieldMutable, field_mutable_lem, LabelHasTypes, label_has_types_lem, LabelTakes, label_takes_lem, AllDefaults, all_defaults_lem, rule_of, asked_rules}
use Rattle.facts_refusals.proofs.Judged.{Judges, nothing_asked, judges_test, judges_need}

-- what is there is not missing

both_ways : {A : Type 0} {o : Option A} {x : A} → o ≡ some x → o ≡ none → ⊥
both_ways p q = none_is_not-some (sym q ∙ p)

present_not_missing : {A : Type 0} {xs : List A} {n : ℕ} → Present xs n → get_elem? xs n ≡ none → ⊥
present_not_missing (present e) q = both_ways e q

struct_not_missing : {f : Form} → IsStruct f → fields_of f ≡ none → ⊥
struct_not_missing a_struct q = none_is_not-some (sym q)

struct_said : {f : Form} {fs : List Field} → f ≡ struct fs → IsStruct f
struct_said e = rw e a_struct

field_said : {f : Form} {fs : List Field} {i : ℕ} {g : Field} → f ≡ struct fs → get_elem? fs i ≡ some g → HasField i f
field_said e p = rw e (has_field_lem p)

same_struct : {fs gs : List Field} → struct fs ≡ struct gs → fs ≡ gs
same_struct e = cc

field_not_missing : (fs : List Field) (i : ℕ) → HasField i (struct fs) → get_elem? fs i ≡ none → ⊥
field_not_missing fs i (has_field_lem p) q = both_ways p q

named-not_missing : {o : Option ℕ} → Named o → o ≡ none → ⊥
named-not_missing named q = none_is_not-some (sym q)

named-said : (o : Option ℕ) {y : ℕ} → o ≡ some y → Named o
named-said o e = rw e named

cast_not_missing : {ts : Types} {h : Heap} → CastDescribed ts h → descriptor_for ts h ≡ none → ⊥
cast_not_missing {ts} (cast_described_lem t) q = both_ways (cast_takes-tested ts t) q

listed-not_missing : (b : ℕ) → CodeListed b → numeric_of b ≡ none → ⊥
listed-not_missing b (code_listed among) q = none_is_not-some (ap typed_of (sym q) ∙ listed-typed among)

mutable_said : {f : Form} {fs : List Field} {i : ℕ} {g : Field} → f ≡ struct fs → get_elem? fs i ≡ some g → g.mutable ≡ true → FieldMutable i f
mutable_said e p m = rw e (field_mutable_lem p m)

mutable_tested : (fs : List Field) (i : ℕ) {g : Field} → get_elem? fs i ≡ some g → FieldMutable i (struct fs) → g.mutable ≡ true
mutable_tested fs i {g} p (field_mutable_lem {f = f} q m) = let same : f ≡ g = same_some (sym q ∙ p) in rw same at m

defaults_said : {f : Form} {fs : List Field} → f ≡ struct fs → Each Default (holds_of fs) → AllDefaults f
defaults_said e ds = rw e (all_defaults_lem ds)

defaults_tested_of : (fs : List Field) → AllDefaults (struct fs) → every has_default (holds_of fs) ≡ true
defaults_tested_of fs (all_defaults_lem ds) = defaults_tested ds

one-heap : {count : ℕ} (h : Heap) → all_below count (heap_names h) ≡ true → Each (HeapReached count) (h ∷ [])
one-heap {count} h e = of_first (tested-heap-reached count h e) of_none

one-heap-tested : {count : ℕ} (h : Heap) → Each (HeapReached count) (h ∷ []) → all_below count (heap_names h) ≡ true
one-heap-tested {count} h (of_first p of_none) = heap-reached-tested count p

two_heaps : {count : ℕ} (h k : Heap) → all_below count (heap_names h ++ heap_names k) ≡ true → Each (HeapReached count) (h ∷ k ∷ [])
two_heaps {count} h k e =
    let (first, second) = every_append (λ x. ltb x count) (heap_names h) _ e in
    of_first (tested-heap-reached count h first) (of_first (tested-heap-reached count k second) of_none)

two_heaps_tested : {count : ℕ} (h k : Heap) → Each (HeapReached count) (h ∷ k ∷ []) → all_below count (heap_names h ++ heap_names k) ≡ true
two_heaps_tested {count} h k (of_first p (of_first q of_none)) =
    append-every (λ x. ltb x count) (heap_names h) _ (heap-reached-tested count p) (heap-reached-tested count q)

-- labels

label_said : {labels : List (List Val)} {l : ℕ} {vs : List Val} {split : List Val × Val} → get_elem? labels l ≡ some vs → last_of vs ≡ some split → LabelHasTypes labels l
label_said {vs = vs} {split} label last = label_has_types_lem split.0 split.1 (label ∙ ap some (found_last vs last))

label_not_missing : {labels : List (List Val)} {l : ℕ} {vs : List Val} → get_elem? labels l ≡ some vs → LabelHasTypes labels l → last_of vs ≡ none → ⊥
label_not_missing {vs = vs} label (label_has_types_lem below last there) q =
    let same : vs ≡ below ++ last ∷ [] = same_some (sym label ∙ there) in
    both_ways (last_found below last) (rw same at q)

takes-said : {ts : Types} {labels : List (List Val)} {l : ℕ} {vs : List Val} {split : List Val × Val} {carried : Val}
    → get_elem? labels l ≡ some vs → last_of vs ≡ some split → val_below ts carried split.1 ≡ true → LabelTakes ts labels l carried
takes-said {ts} {vs = vs} {split} label last e =
    label_takes_lem split.0 split.1 (label ∙ ap some (found_last vs last)) (tested_value_order ts _ _ e)

takes-tested : {ts : Types} → Ordered ts → {labels : List (List Val)} {l : ℕ} {vs : List Val} {split : List Val × Val} {carried : Val}
    → get_elem? labels l ≡ some vs → last_of vs ≡ some split → LabelTakes ts labels l carried → val_below ts carried split.1 ≡ true
takes-tested ordered {vs = vs} {split} {carried} label found (label_takes_lem below last there order) =
    let same : vs ≡ below ++ last ∷ [] = same_some (sym label ∙ there) in
    let other : last_of vs ≡ some (below, last) = rw same (last_found below last) in
    let one : split ≡ (below, last) = same_some (sym found ∙ other) in
    let end : split.1 ≡ last = ap (λ (p : List Val × Val). p.1) one in
    rw end (ordered.tested carried last order)

-- instruction by instruction

module _ (c : Context) (here : Scope) (ordered : Ordered c.types) where
  number-asked : {A : Type 0} (x : ℕ) {rules : List Rule} {more : Ruled A} → Judges more rules → Judges (reached c (x ∷ []) more) (rule_of c here (type_reached x) ∷ rules)
  number-asked x later = judges_test _ (tested-number-reached c.count x) (number-reached-tested c.count) (λ e. later)

  heap-asked : {A : Type 0} (h : Heap) {rules : List Rule} {more : Ruled A} → Judges more rules → Judges (reached c (heap_names h) more) (rule_of c here (heaps_reached (h ∷ [])) ∷ rules)
  heap-asked h later = judges_test _ (one-heap h) (one-heap-tested h) (λ e. later)

  label_asked : {A : Type 0} (l : ℕ) {rules : List Rule} {f : List Val → Ruled A}
      → ((vs : List Val) → get_elem? here.labels l ≡ some vs → Judges (f vs) rules) → Judges (labelled here l f) (rule_of c here (label_there l) ∷ rules)
  label_asked l later = judges_need _ (λ vs e. present e) present_not_missing later

  local_asked : {A : Type 0} (x : ℕ) {rules : List Rule} {f : Val → Ruled A} → ((v : Val) → Judges (f v) rules) → Judges (local_of c x f) (rule_of c here (local_there x) ∷ rules)
  local_asked x later = judges_need _ (λ v e. present e) present_not_missing (λ v e. later v)

  set-asked : {A : Type 0} (x : ℕ) {rules : List Rule} {more : Ruled A} → Judges more rules → Judges (already_set here x more) (rule_of c here (local_is_set x) ∷ rules)
  set-asked x later = judges_test _ (tested-set here.is_set x) (set_tested here.is_set x) (λ e. later)

  struct_asked : {A : Type 0} (x : ℕ) {rules : List Rule} {f : List Field → Ruled A}
      → ((fs : List Field) → (c.types x).form ≡ struct fs → Judges (f fs) rules) → Judges (struct_of c x f) (rule_of c here (is_struct x) ∷ rules)
  struct_asked x later = judges_need _ (λ fs e. struct_said (has_fields _ e)) struct_not_missing (λ fs e. later fs (has_fields _ e))

  field_asked : {A : Type 0} (x i : ℕ) {rules : List Rule} {f : Field → Ruled A}
      → ((fs : List Field) (g : Field) → (c.types x).form ≡ struct fs → get_elem? fs i ≡ some g → Judges (f g) rules)
      → Judges (field_of c x i f) (rule_of c here (is_struct x) ∷ rule_of c here (has_field x i) ∷ rules)
  field_asked x i later =
      struct_asked x (λ fs form.
      judges_need _ (λ g e. field_said form e) (λ p. field_not_missing fs i (rw form at p)) (λ g e. later fs g form e))

  none-asked : {A : Type 0} (x : ℕ) {rules : List Rule} {more : Ruled A} → Judges more rules → Judges (undescribed c x more) (rule_of c here (no_descriptor x) ∷ rules)
  none-asked x later = judges_test _ (has_none (c.types x).descriptor) (λ e. rw e) (λ e. later)

  descriptor_asked : {A : Type 0} (x : ℕ) {rules : List Rule} {f : ℕ → Ruled A} → ((y : ℕ) → Judges (f y) rules) → Judges (described c x f) (rule_of c here (has_descriptor x) ∷ rules)
  descriptor_asked x later = judges_need _ (λ y e. named-said (c.types x).descriptor e) named-not_missing (λ y e. later y)

  cast_descriptor_asked : {A : Type 0} (h : Heap) {rules : List Rule} {f : Heap → Ruled A}
      → ((d : Heap) → Judges (f d) rules) → Judges (cast_descriptor c h f) (rule_of c here (cast_described h) ∷ rules)
  cast_descriptor_asked h later = judges_need _ (λ d e. cast_described_lem (tested_cast_takes c.types h e)) cast_not_missing (λ d e. later d)

  mutable_asked : {A : Type 0} (x i : ℕ) {fs : List Field} {g : Field} → (c.types x).form ≡ struct fs → get_elem? fs i ≡ some g
      → {rules : List Rule} {more : Ruled A} → Judges more rules → Judges (changeable g more) (rule_of c here (field_mutable x i) ∷ rules)
  mutable_asked x i {fs} form there later = judges_test _ (mutable_said form there) (λ p. mutable_tested fs i there (rw form at p)) (λ e. later)

  defaults_asked : {A : Type 0} (x : ℕ) {fs : List Field} → (c.types x).form ≡ struct fs
      → {rules : List Rule} {more : Ruled A} → Judges more rules → Judges (defaulted fs more) (rule_of c here (all_defaults x) ∷ rules)
  defaults_asked x {fs} form later =
      judges_test _ (λ e. defaults_said form (tested_defaults (holds_of fs) e)) (λ p. defaults_tested_of fs (rw form at p)) (λ e. later)

  branch-asked : (k : Cast) (carried falls : Val) (first : List Wanted) {vs : List Val} → get_elem? here.labels k.label ≡ some vs
      → Judges (branches c first k carried falls vs) (rule_of c here (supertype_shared k) ∷ rule_of c here (label_has_types k.label) ∷ rule_of c here (label_takes k.label carried) ∷ [])
  branch-asked k carried falls first {vs} label =
      judges_test _ (tested_shares k.source_null k.target_null k.source k.target) (shares_tested ordered) (λ e.
      judges_need (last_of vs) (λ split last. label_said label last) (label_not_missing label) (λ split last.
      judges_test _ (takes-said label last) (takes-tested ordered label last) (λ f. nothing_asked)))

  cast_asked : {A : Type 0} (k : Cast) {rules : List Rule} {f : List Val → Ruled A}
      → ((vs : List Val) → get_elem? here.labels k.label ≡ some vs → Judges (f vs) rules)
      → Judges (cast_reached c here k f) (rule_of c here (heaps_reached (k.source ∷ k.target ∷ [])) ∷ rule_of c here (label_there k.label) ∷ rules)
  cast_asked k later = judges_test _ (two_heaps k.source k.target) (two_heaps_tested k.source k.target) (λ e. label_asked k.label later)

  pub plan_asked : (o : Op) → Judges (plan_of c here o) (asked_rules c here o)
  unfolding plan_of
  plan_asked unreachable = nothing_asked
  plan_asked nop = nothing_asked
  plan_asked return = nothing_asked
  plan_asked drop_value = nothing_asked
  plan_asked (br l) = label_asked l (λ vs e. nothing_asked)
  plan_asked (br_if l) = label_asked l (λ vs e. nothing_asked)
  plan_asked (local_get x) = local_asked x (λ v. set-asked x nothing_asked)
  plan_asked (local_set x) = local_asked x (λ v. nothing_asked)
  plan_asked (local_tee x) = local_asked x (λ v. nothing_asked)
  plan_asked (i32_const n) = nothing_asked
  plan_asked (i64_const n) = nothing_asked
  plan_asked (f32_const n) = nothing_asked
  plan_asked (f64_const n) = nothing_asked
  plan_asked (numeric b) = judges_need _ (λ kinds e. listed_at b e) (listed-not_missing b) (λ kinds e. nothing_asked)
  plan_asked (ref_null h) = heap-asked h nothing_asked
  plan_asked ref_is_null = nothing_asked
  plan_asked ref_eq = nothing_asked
  plan_asked ref_as_non_null = nothing_asked
  plan_asked (struct_new x) = number-asked x (struct_asked x (λ fs form. none-asked x nothing_asked))
  plan_asked (struct_new_default x) = number-asked x (struct_asked x (λ fs form. none-asked x (defaults_asked x form nothing_asked)))
  plan_asked (struct_get x i) = number-asked x (field_asked x i (λ fs g form there. nothing_asked))
  plan_asked (struct_set x i) = number-asked x (field_asked x i (λ fs g form there. mutable_asked x i form there nothing_asked))
  plan_asked (ref_test n h) = heap-asked h nothing_asked
  plan_asked (ref_cast n h) = heap-asked h nothing_asked
  plan_asked (br_on_cast k) = cast_asked k (λ vs label. branch-asked k (target_of k) (rest_of k) [] label)
  plan_asked (br_on_cast_fail k) = cast_asked k (λ vs label. branch-asked k (rest_of k) (target_of k) [] label)
  plan_asked (struct_new_desc x) = number-asked x (struct_asked x (λ fs form. descriptor_asked x (λ y. nothing_asked)))
  plan_asked (struct_new_default_desc x) = number-asked x (struct_asked x (λ fs form. descriptor_asked x (λ y. defaults_asked x form nothing_asked)))
  plan_asked (ref_get_desc x) = number-asked x (descriptor_asked x (λ y. nothing_asked))
  plan_asked (ref_cast_desc_eq n h) = heap-asked h (cast_descriptor_asked h (λ d. nothing_asked))
  plan_asked (br_on_cast_desc_eq k) =
      cast_asked k (λ vs label. cast_descriptor_asked k.target (λ d. branch-asked k (target_of k) (rest_of k) (value (nullable d) ∷ []) label))
  plan_asked (br_on_cast_desc_eq_fail k) =
      cast_asked k (λ vs label. cast_descriptor_asked k.target (λ d. branch-asked k (rest_of k) (target_of k) (value (nullable d) ∷ []) label))
