-- What an instruction asks and gives: the body rules of document 01, as document 02 amends them, instruction by instruction. The
-- tests of one instruction stand in document 01's order: 6, 21, 23, 24, 25, 29, 22; operands come in specs/Bodies.antt.
use Rattle.std.specs.Prelude.{ℕ, Bool, true, false, not, cond, ◌&&◌, List, [], ◌∷◌, ◌++◌, map, reverse, get_or, replicate, ltb}
use Rattle.std.proofs.Math.Option.{Option, none, some}
use Rattle.std.proofs.Math.ListN.{get_elem?}
use Rattle.scope.specs.Refusals.{not_listed, out_of_reach, absent, not_set, bad_struct, field_fixed, bad_branch, no_default}
use Rattle.scope.specs.Reading.{given}
use Rattle.scope.specs.Lists.{every, is_none}
use Rattle.scope.specs.Abstract.{Abstract, ANY, EQ, row, same_abstract}
use Rattle.scope.specs.Syntax.{Heap, abstract, defined, exact, i32, i64, f32, f64, Val, num, ref, nullable, non_null, Field, Form, struct, func, Types}
use Rattle.scope.specs.Order.{kind_of, val_below}
use Rattle.scope.specs.TypeRules.{heap_names}
use Rattle.scope.specs.Numeric.{Numeric, numeric_of}
use Rattle.scope.specs.Instructions.{Cast, Op, unreachable, nop, return, drop_value, br, br_if, local_get, local_set, local_tee, i32_const, i64_const, f32_const, f64_const, numeric, ref_null, ref_is_null, ref_eq, ref_as_non_null, struct_new, struct_new_default, struct_get, struct_set, ref_test, ref_cast, br_on_cast, br_on_cast_fail, struct_new_desc, struct_new_default_desc, ref_get_desc, ref_cast_desc_eq, br_on_cast_desc_eq, br_on_cast_desc_eq_fail}

-- what a body is checked against: the section's types and their count, the locals with the parameters, the results
pub record Context : Type 0 where
  pub types : Types
  pub count : ℕ
  pub locals : List Val
  pub results : List Val

-- what is open where the instruction stands: the labels, innermost first, and which locals are set
pub record Scope : Type 0 where
  pub labels : List (List Val)
  pub is_set : List Bool

-- what an instruction takes from the stack
pub data Wanted : Type 0 where
  value : Val → Wanted
  any_value : Wanted
  any_reference : Wanted

-- what it puts there
pub data Gives : Type 0 where
  values : List Val → Gives
  -- the reference that it took, not null
  it_non_null : Gives
  -- of a reference to x, whose descriptor is y: (ref y), exact when the operand is below (ref null (exact x))
  its_descriptor : ℕ → ℕ → Gives

-- what an instruction does to the stack: it takes `wants`, from the top, and puts `gives`; it may set a local; after it the
-- stack may yield unknowns
pub record Plan : Type 0 where
  pub wants : List Wanted
  pub gives : Gives
  pub marks : Option ℕ
  pub stops : Bool

-- allowed, or a refusal's number
pub data Ruled (A : Type 0) : Type 0 where
  allowed : A → Ruled A
  fault : ℕ → Ruled A

abbrev pub test : {A : Type 0} → Bool → ℕ → Ruled A → Ruled A
test holds number more = cond holds more (fault number)

abbrev pub need : {A B : Type 0} → Option A → ℕ → (A → Ruled B) → Ruled B
need o number f = given o (fault number) f

abbrev pub and_ruled : {A B : Type 0} → Ruled A → (A → Ruled B) → Ruled B
and_ruled (allowed x) f = f x
and_ruled (fault n) f = fault n

-- plans

abbrev pub takes : List Wanted → Gives → Ruled Plan
takes ws g = allowed (record { wants = ws; gives = g; marks = none; stops = false })

abbrev pub takes_and_sets : ℕ → List Wanted → Gives → Ruled Plan
takes_and_sets x ws g = allowed (record { wants = ws; gives = g; marks = some x; stops = false })

abbrev pub takes_and_stops : List Wanted → Ruled Plan
takes_and_stops ws = allowed (record { wants = ws; gives = values []; marks = none; stops = true })

-- operands come from the top: the last of a list first
abbrev pub from_top : List Val → List Wanted
from_top vs = map value (reverse vs)

-- all operands of a numeric instruction are of one kind
abbrev pub operands_of : Numeric → List Wanted
operands_of kinds = replicate kinds.operands (value (num kinds.kind))

-- parts of types

abbrev pub fields_of : Form → Option (List Field)
fields_of (struct fs) = some fs
fields_of (func ps rs) = none

abbrev pub holds_of : List Field → List Val
holds_of fs = map (λ f. f.holds) fs

-- numbers and nullable references have a default
abbrev pub has_default : Val → Bool
has_default (num n) = true
has_default (ref n h) = n

-- the top of the hierarchy
abbrev pub top_of : Types → Heap → Abstract
top_of ts (abstract a) = (row a).top
top_of ts (defined x) = (row (kind_of (ts x).form)).top
top_of ts (exact x) = (row (kind_of (ts x).form)).top

-- "one hierarchy": the same top
abbrev pub one_hierarchy : Types → Heap → Heap → Bool
one_hierarchy ts h k = same_abstract (top_of ts h) (top_of ts k)

-- the type of the descriptor that a descriptor cast to this target takes: exact y when the target is exact. "The target
-- is a defined type with a descriptor."
abbrev pub descriptor_for : Types → Heap → Option Heap
descriptor_for ts (abstract a) = none
descriptor_for ts (defined x) = given (ts x).descriptor none (λ y. some (defined y))
descriptor_for ts (exact x) = given (ts x).descriptor none (λ y. some (exact y))

-- the last of a list, and those before it
unfoldable pub last_of : {A : Type 0} → List A → Option (List A × A)
last_of [] = none
last_of (x ∷ xs) = given (last_of xs) (some ([], x)) (λ more. some (x ∷ more.0, more.1))

-- branching casts

abbrev pub source_of : Cast → Val
source_of c = ref c.source_null c.source

abbrev pub target_of : Cast → Val
target_of c = ref c.target_null c.target

-- "The rest is the source, not null where the target may be null."
abbrev pub rest_of : Cast → Val
rest_of c = ref (c.source_null && not c.target_null) c.source

-- the tests, in document 01's order

-- 6: type number out of reach
abbrev pub reached : {A : Type 0} → Context → List ℕ → Ruled A → Ruled A
reached c xs more = test (every (λ x. ltb x c.count) xs) out_of_reach more

-- 21: label or local absent
abbrev pub labelled : {A : Type 0} → Scope → ℕ → (List Val → Ruled A) → Ruled A
labelled here l f = need (get_elem? here.labels l) absent f

abbrev pub local_of : {A : Type 0} → Context → ℕ → (Val → Ruled A) → Ruled A
local_of c x f = need (get_elem? c.locals x) absent f

-- 23: not a struct, no such field, descriptor missing or unwanted
abbrev pub struct_of : {A : Type 0} → Context → ℕ → (List Field → Ruled A) → Ruled A
struct_of c x f = need (fields_of (c.types x).form) bad_struct f

abbrev pub field_of : {A : Type 0} → Context → ℕ → ℕ → (Field → Ruled A) → Ruled A
field_of c x i f = struct_of c x (λ fs. need (get_elem? fs i) bad_struct f)

abbrev pub undescribed : {A : Type 0} → Context → ℕ → Ruled A → Ruled A
undescribed c x more = test (is_none (c.types x).descriptor) bad_struct more

abbrev pub described : {A : Type 0} → Context → ℕ → (ℕ → Ruled A) → Ruled A
described c x f = need (c.types x).descriptor bad_struct f

abbrev pub cast_descriptor : {A : Type 0} → Context → Heap → (Heap → Ruled A) → Ruled A
cast_descriptor c h f = need (descriptor_for c.types h) bad_struct f

-- 24: field fixed
abbrev pub changeable : {A : Type 0} → Field → Ruled A → Ruled A
changeable f more = test f.mutable field_fixed more

-- 25: branching cast's rule, label without types. `carried` goes to the label, `falls` falls through; `first` is taken before the
-- object.

-- "The label's last type takes what is carried. Values below, .. are read as the label's types afterwards."
abbrev pub carried_to : Context → List Wanted → Cast → Val → Val → List Val → Ruled Plan
carried_to c first k carried falls label =
    need (last_of label) bad_branch (λ split.
    test (val_below c.types carried split.1) bad_branch
    (takes (first ++ value (source_of k) ∷ from_top split.0) (values (split.0 ++ falls ∷ []))))

-- Request 4 of document 02: "003 asks only that both share a valid supertype, so one hierarchy, in all four forms. For the types,
-- 25 then means different hierarchies."
abbrev pub branches : Context → List Wanted → Cast → Val → Val → List Val → Ruled Plan
branches c first k carried falls label = test (one_hierarchy c.types k.source k.target) bad_branch (carried_to c first k carried falls label)

-- 29: no default
abbrev pub defaulted : {A : Type 0} → List Field → Ruled A → Ruled A
defaulted fs more = test (every has_default (holds_of fs)) no_default more

-- 22: local not set
abbrev pub already_set : {A : Type 0} → Scope → ℕ → Ruled A → Ruled A
already_set here x more = test (get_or here.is_set x false) not_set more

-- 6 and 21 of a branching cast
abbrev pub cast_reached : {A : Type 0} → Context → Scope → Cast → (List Val → Ruled A) → Ruled A
cast_reached c here k f = reached c (heap_names k.source ++ heap_names k.target) (labelled here k.label f)

-- 23 of a descriptor's branching cast: what is taken: "(ref null y) on top, exact y when the target is exact"
abbrev pub cast_described : {A : Type 0} → Context → Cast → (List Wanted → Ruled A) → Ruled A
cast_described c k f = cast_descriptor c k.target (λ d. f (value (nullable d) ∷ []))

-- the rule of each instruction but block, loop and end
unfoldable pub plan_of : Context → Scope → Op → Ruled Plan
plan_of c here unreachable = takes_and_stops []
plan_of c here nop = takes [] (values [])
plan_of c here return = takes_and_stops (from_top c.results)
plan_of c here drop_value = takes (any_value ∷ []) (values [])
plan_of c here (br l) = labelled here l (λ vs. takes_and_stops (from_top vs))
-- values kept by br_if are read as the label's types afterwards
plan_of c here (br_if l) = labelled here l (λ vs. takes (value (num i32) ∷ from_top vs) (values vs))
-- "A local without a default must be set before it is read."
plan_of c here (local_get x) = local_of c x (λ v. already_set here x (takes [] (values (v ∷ []))))
plan_of c here (local_set x) = local_of c x (λ v. takes_and_sets x (value v ∷ []) (values []))
plan_of c here (local_tee x) = local_of c x (λ v. takes_and_sets x (value v ∷ []) (values (v ∷ [])))
plan_of c here (i32_const n) = takes [] (values (num i32 ∷ []))
plan_of c here (i64_const n) = takes [] (values (num i64 ∷ []))
plan_of c here (f32_const n) = takes [] (values (num f32 ∷ []))
plan_of c here (f64_const n) = takes [] (values (num f64 ∷ []))
-- "with the operand and result kinds of the core standard". 3 is a code's that is not listed, and none is read.
plan_of c here (numeric b) = need (numeric_of b) not_listed (λ kinds. takes (operands_of kinds) (values (num kinds.result ∷ [])))
plan_of c here (ref_null h) = reached c (heap_names h) (takes [] (values (nullable h ∷ [])))
plan_of c here ref_is_null = takes (any_reference ∷ []) (values (num i32 ∷ []))
plan_of c here ref_eq = takes (value (nullable (abstract EQ)) ∷ value (nullable (abstract EQ)) ∷ []) (values (num i32 ∷ []))
plan_of c here ref_as_non_null = takes (any_reference ∷ []) it_non_null
-- "struct.new and its default take only types with no descriptor. .. All give (ref (exact x))."
plan_of c here (struct_new x) =
    reached c (x ∷ []) (struct_of c x (λ fs. undescribed c x (takes (from_top (holds_of fs)) (values (non_null (exact x) ∷ [])))))
plan_of c here (struct_new_default x) =
    reached c (x ∷ []) (struct_of c x (λ fs. undescribed c x (defaulted fs (takes [] (values (non_null (exact x) ∷ []))))))
plan_of c here (struct_get x i) =
    reached c (x ∷ []) (field_of c x i (λ f. takes (value (nullable (defined x)) ∷ []) (values (f.holds ∷ []))))
plan_of c here (struct_set x i) =
    reached c (x ∷ []) (field_of c x i (λ f. changeable f (takes (value f.holds ∷ value (nullable (defined x)) ∷ []) (values []))))
-- "ref.test and ref.cast take any reference of the target's hierarchy."
plan_of c here (ref_test n h) =
    reached c (heap_names h) (takes (value (nullable (abstract (top_of c.types h))) ∷ []) (values (num i32 ∷ [])))
plan_of c here (ref_cast n h) =
    reached c (heap_names h) (takes (value (nullable (abstract (top_of c.types h))) ∷ []) (values (ref n h ∷ [])))
-- "The plain form carries the target and falls through with the rest, the fail form the other way round."
plan_of c here (br_on_cast k) = cast_reached c here k (branches c [] k (target_of k) (rest_of k))
plan_of c here (br_on_cast_fail k) = cast_reached c here k (branches c [] k (rest_of k) (target_of k))
-- "The _desc ones take the fields (default: none), then (ref null (exact y)) on top."
plan_of c here (struct_new_desc x) =
    reached c (x ∷ [])
    (struct_of c x (λ fs.
    described c x (λ y. takes (value (nullable (exact y)) ∷ from_top (holds_of fs)) (values (non_null (exact x) ∷ [])))))
plan_of c here (struct_new_default_desc x) =
    reached c (x ∷ [])
    (struct_of c x (λ fs.
    described c x (λ y. defaulted fs (takes (value (nullable (exact y)) ∷ []) (values (non_null (exact x) ∷ []))))))
-- "ref.get_desc x takes (ref null x) and gives (ref y), exact when the operand is below (ref null (exact x))."
plan_of c here (ref_get_desc x) =
    reached c (x ∷ []) (described c x (λ y. takes (value (nullable (defined x)) ∷ []) (its_descriptor x y)))
-- "ref.cast_desc_eq to x takes a reference below any, then (ref null y) on top, exact y when the target is exact."
plan_of c here (ref_cast_desc_eq n h) =
    reached c (heap_names h)
    (cast_descriptor c h (λ d. takes (value (nullable d) ∷ value (nullable (abstract ANY)) ∷ []) (values (ref n h ∷ []))))
plan_of c here (br_on_cast_desc_eq k) =
    cast_reached c here k (λ vs. cast_described c k (λ first. branches c first k (target_of k) (rest_of k) vs))
plan_of c here (br_on_cast_desc_eq_fail k) =
    cast_reached c here k (λ vs. cast_described c k (λ first. branches c first k (rest_of k) (target_of k) vs))
