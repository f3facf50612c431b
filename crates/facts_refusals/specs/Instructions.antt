-- What an instruction is asked before its operands, and the number that is said where the answer is no: a row for each
-- instruction, in document 01's order: "immediates, 6, 21, 23, 24, 25, 29, 22". Each question is a relation, over the same
-- relations as the rules of facts_bodies; what is carried to a label and what falls through is named as there.
use Rattle.std.specs.Prelude.{ℕ, ◌+◌, ◌<◌, ◌≡◌, Bool, true, cond, ◌&&◌, List, [], ◌∷◌, ◌++◌, map, eqb, leb}
use Rattle.std.proofs.Math.Option.{Option, none, some}
use Rattle.std.proofs.Math.ListN.{get_elem?}
use Rattle.scope.specs.Lists.{every}
use Rattle.scope.specs.Refusals.{not_listed, out_of_reach, absent, bad_struct, field_fixed, bad_branch, no_default, not_set}
use Rattle.scope.specs.Syntax.{Heap, Val, Field, Form, struct, Types}
use Rattle.scope.specs.Order.{ValOrder}
use Rattle.scope.specs.Instructions.{Cast, Op, unreachable, nop, return, drop_value, br, br_if, local_get, local_set, local_tee, i32_const, i64_const, f32_const, f64_const, numeric, ref_null, ref_is_null, ref_eq, ref_as_non_null, struct_new, struct_new_default, struct_get, struct_set, ref_test, ref_cast, br_on_cast, br_on_cast_fail, struct_new_desc, struct_new_default_desc, ref_get_desc, ref_cast_desc_eq, br_on_cast_desc_eq, br_on_cast_desc_eq_fail}
use Rattle.scope.specs.BodyRules.{Context, Scope, holds_of, rest_of}
use Rattle.facts_sections.specs.FirstFault.{Rule}
use Rattle.facts_types.specs.TypeRelations.{IsStruct}
use Rattle.facts_codes.specs.Proper.{CodeListed}
use Rattle.facts_bodies.specs.Premises.{Each, HeapReached, Default, CastTakes}
use Rattle.facts_bodies.specs.Apart.{cast_source, cast_target, ShareSupertype}

-- the questions
pub data Question : Type 0 where
  -- 3: a numeric code that is not listed; none is read
  code_listed : ℕ → Question
  -- 6: type number out of reach
  heaps_reached : List Heap → Question
  type_reached : ℕ → Question
  -- 21: label or local absent
  label_there local_there : ℕ → Question
  -- 23: not a struct, no such field, descriptor missing or unwanted
  is_struct : ℕ → Question
  has_field : ℕ → ℕ → Question
  no_descriptor has_descriptor : ℕ → Question
  cast_described : Heap → Question
  -- 24: field fixed
  field_mutable : ℕ → ℕ → Question
  -- 25: branching cast's rule, label without types. "For the types, 25 then means different hierarchies" (request 4 of document 02)
  supertype_shared : Cast → Question
  label_has_types : ℕ → Question
  label_takes : ℕ → Val → Question
  -- 29: no default
  all_defaults : ℕ → Question
  -- 22: local not set
  local_is_set : ℕ → Question

abbrev pub number_of : Question → ℕ
number_of (code_listed b) = not_listed
number_of (heaps_reached hs) = out_of_reach
number_of (type_reached x) = out_of_reach
number_of (label_there l) = absent
number_of (local_there x) = absent
number_of (is_struct x) = bad_struct
number_of (has_field x i) = bad_struct
number_of (no_descriptor x) = bad_struct
number_of (has_descriptor x) = bad_struct
number_of (cast_described h) = bad_struct
number_of (field_mutable x i) = field_fixed
number_of (supertype_shared k) = bad_branch
number_of (label_has_types l) = bad_branch
number_of (label_takes l v) = bad_branch
number_of (all_defaults x) = no_default
number_of (local_is_set x) = not_set

-- what a yes means

-- the list has an element with this number
pub data Present {A : Type 0} (xs : List A) (n : ℕ) : Type 0 where
  present : {x : A} → get_elem? xs n ≡ some x → Present xs n

pub data HasField (i : ℕ) : Form → Type 0 where
  has_field_lem : {fs : List Field} {f : Field} → get_elem? fs i ≡ some f → HasField i (struct fs)

pub data Named : Option ℕ → Type 0 where
  named : {y : ℕ} → Named (some y)

pub data CastDescribed (ts : Types) (h : Heap) : Type 0 where
  cast_described_lem : {d : Heap} → CastTakes ts h d → CastDescribed ts h

pub data FieldMutable (i : ℕ) : Form → Type 0 where
  field_mutable_lem : {fs : List Field} {f : Field} → get_elem? fs i ≡ some f → f.mutable ≡ true → FieldMutable i (struct fs)

pub data LabelHasTypes (labels : List (List Val)) (l : ℕ) : Type 0 where
  label_has_types_lem : (below : List Val) (last : Val) → get_elem? labels l ≡ some (below ++ last ∷ []) → LabelHasTypes labels l

pub data LabelTakes (ts : Types) (labels : List (List Val)) (l : ℕ) (carried : Val) : Type 0 where
  label_takes_lem : (below : List Val) (last : Val) → get_elem? labels l ≡ some (below ++ last ∷ []) → ValOrder ts carried last → LabelTakes ts labels l carried

pub data AllDefaults : Form → Type 0 where
  all_defaults_lem : {fs : List Field} → Each Default (holds_of fs) → AllDefaults (struct fs)

abbrev pub Means : Context → Scope → Question → Type 0
Means c here (code_listed b) = CodeListed b
Means c here (heaps_reached hs) = Each (HeapReached c.count) hs
Means c here (type_reached x) = x < c.count
Means c here (label_there l) = Present here.labels l
Means c here (local_there x) = Present c.locals x
Means c here (is_struct x) = IsStruct (c.types x).form
Means c here (has_field x i) = HasField i (c.types x).form
Means c here (no_descriptor x) = (c.types x).descriptor ≡ none
Means c here (has_descriptor x) = Named (c.types x).descriptor
Means c here (cast_described h) = CastDescribed c.types h
Means c here (field_mutable x i) = FieldMutable i (c.types x).form
Means c here (supertype_shared k) = ShareSupertype c.count c.types (cast_source k) (cast_target k)
Means c here (label_has_types l) = LabelHasTypes here.labels l
Means c here (label_takes l v) = LabelTakes c.types here.labels l v
Means c here (all_defaults x) = AllDefaults (c.types x).form
Means c here (local_is_set x) = get_elem? here.is_set x ≡ some true

abbrev pub rule_of : Context → Scope → Question → Rule
rule_of c here q = record { says = Means c here q; number = number_of q }

-- the table

-- a branching cast: 6, 21; 23 where it has a descriptor; 25
abbrev pub cast_asks : Cast → List Question → Val → List Question
cast_asks k descriptor carried =
    heaps_reached (k.source ∷ k.target ∷ [])
    ∷ label_there k.label
    ∷ descriptor
    ++ supertype_shared k
    ∷ label_has_types k.label
    ∷ label_takes k.label carried
    ∷ []

abbrev pub asks : Op → List Question
asks unreachable = []
asks nop = []
asks return = []
asks drop_value = []
asks (br l) = label_there l ∷ []
asks (br_if l) = label_there l ∷ []
asks (local_get x) = local_there x ∷ local_is_set x ∷ []
asks (local_set x) = local_there x ∷ []
asks (local_tee x) = local_there x ∷ []
asks (i32_const n) = []
asks (i64_const n) = []
asks (f32_const n) = []
asks (f64_const n) = []
asks (numeric b) = code_listed b ∷ []
asks (ref_null h) = heaps_reached (h ∷ []) ∷ []
asks ref_is_null = []
asks ref_eq = []
asks ref_as_non_null = []
asks (struct_new x) = type_reached x ∷ is_struct x ∷ no_descriptor x ∷ []
asks (struct_new_default x) = type_reached x ∷ is_struct x ∷ no_descriptor x ∷ all_defaults x ∷ []
asks (struct_get x i) = type_reached x ∷ is_struct x ∷ has_field x i ∷ []
asks (struct_set x i) = type_reached x ∷ is_struct x ∷ has_field x i ∷ field_mutable x i ∷ []
asks (ref_test n h) = heaps_reached (h ∷ []) ∷ []
asks (ref_cast n h) = heaps_reached (h ∷ []) ∷ []
asks (br_on_cast k) = cast_asks k [] (cast_target k)
asks (br_on_cast_fail k) = cast_asks k [] (rest_of k)
asks (struct_new_desc x) = type_reached x ∷ is_struct x ∷ has_descriptor x ∷ []
asks (struct_new_default_desc x) = type_reached x ∷ is_struct x ∷ has_descriptor x ∷ all_defaults x ∷ []
asks (ref_get_desc x) = type_reached x ∷ has_descriptor x ∷ []
asks (ref_cast_desc_eq n h) = heaps_reached (h ∷ []) ∷ cast_described h ∷ []
asks (br_on_cast_desc_eq k) = cast_asks k (cast_described k.target ∷ []) (cast_target k)
asks (br_on_cast_desc_eq_fail k) = cast_asks k (cast_described k.target ∷ []) (rest_of k)

-- the rules of an instruction before its operands
abbrev pub asked_rules : Context → Scope → Op → List Rule
asked_rules c here o = map (rule_of c here) (asks o)

-- "6, 21, 23, 24, 25, 29, 22": a number's rank in that order
abbrev pub order : List ℕ
order = 6 ∷ 21 ∷ 23 ∷ 24 ∷ 25 ∷ 29 ∷ 22 ∷ []

abbrev pub rank_in : List ℕ → ℕ → ℕ
rank_in [] n = 0
rank_in (m ∷ ms) n = cond (eqb n m) 0 (rank_in ms n + 1)

-- no number stands before one of a lower rank
abbrev pub rising : List ℕ → Bool
rising [] = true
rising (n ∷ ns) = every (λ m. leb (rank_in order n) (rank_in order m)) ns && rising ns
