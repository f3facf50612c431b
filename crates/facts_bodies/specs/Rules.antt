-- The body rules of document 01, as document 02 amends them, as a relation, a constructor for each instruction: `Rule c here o p`
-- says that o is allowed where `here` is open, and that it takes, gives and sets what p says. Operands are listed from the top.
use Rattle.std.specs.Prelude.{ℕ, ◌<◌, ◌≡◌, Bool, true, false, List, [], ◌∷◌, ◌++◌, map}
use Rattle.std.proofs.Math.Option.{none, some}
use Rattle.std.proofs.Math.ListN.{get_elem?}
use Rattle.scope.specs.Abstract.{Abstract, ANY, EQ}
use Rattle.scope.specs.Syntax.{Heap, abstract, defined, exact, Number, i32, i64, f32, f64, Val, num, ref, nullable, non_null, Field, struct}
use Rattle.scope.specs.Order.{ValOrder}
use Rattle.scope.specs.Instructions.{Cast, Op, unreachable, nop, return, drop_value, br, br_if, local_get, local_set, local_tee, i32_const, i64_const, f32_const, f64_const, numeric, ref_null, ref_is_null, ref_eq, ref_as_non_null, struct_new, struct_new_default, struct_get, struct_set, ref_test, ref_cast, br_on_cast, br_on_cast_fail, struct_new_desc, struct_new_default_desc, ref_get_desc, ref_cast_desc_eq, br_on_cast_desc_eq, br_on_cast_desc_eq_fail}
use Rattle.scope.specs.BodyRules.{Context, Scope, Wanted, value, any_value, any_reference, Gives, values, it_non_null, its_descriptor, Plan, from_top, holds_of}
use Rattle.facts_codes.specs.Numeric.{Listed}
use Rattle.facts_bodies.specs.Premises.{Each, HeapReached, Default, CastTakes}
use Rattle.facts_bodies.specs.Apart.{TopOf, cast_source, cast_target, ShareSupertype, Rest}

-- what an instruction does to the stack

abbrev pub taking : List Wanted → Gives → Plan
taking ws g = record { wants = ws; gives = g; marks = none; stops = false }

abbrev pub setting : ℕ → List Wanted → Gives → Plan
setting x ws g = record { wants = ws; gives = g; marks = some x; stops = false }

abbrev pub stopping : List Wanted → Plan
stopping ws = record { wants = ws; gives = values []; marks = none; stops = true }

-- premises that several rules have

-- x is the number of a struct type with these fields
pub record StructType (c : Context) (x : ℕ) (fs : List Field) : Type 0 where
  pub in_reach : x < c.count
  pub form : (c.types x).form ≡ struct fs

-- x is the number of a struct type, and its field i is f
pub record FieldOf (c : Context) (x i : ℕ) (f : Field) : Type 0 where
  pub fields : List Field
  pub is_struct : StructType c x fields
  pub present : get_elem? fields i ≡ some f

-- Branching casts: source and target "share a valid supertype" (request 4 of document 02); "The label's last type takes what is
-- carried." `below` are the label's types before the last.
pub record Branching (c : Context) (here : Scope) (k : Cast) (carried : Val) (below : List Val) : Type 0 where
  pub source_reached : HeapReached c.count k.source
  pub target_reached : HeapReached c.count k.target
  pub last : Val
  pub label : get_elem? here.labels k.label ≡ some (below ++ last ∷ [])
  pub shared : ShareSupertype c.count c.types (cast_source k) (cast_target k)
  pub takes_carried : ValOrder c.types carried last

-- the rules

pub data Rule (c : Context) (here : Scope) : Op → Plan → Type 0 where
  rule_unreachable : Rule c here unreachable (stopping [])
  rule_nop : Rule c here nop (taking [] (values []))
  rule_return : Rule c here return (stopping (from_top c.results))
  rule_drop : Rule c here drop_value (taking (any_value ∷ []) (values []))
  rule_br : {l : ℕ} {vs : List Val} → get_elem? here.labels l ≡ some vs → Rule c here (br l) (stopping (from_top vs))
  -- values kept by br_if are read as the label's types afterwards
  rule_br_if : {l : ℕ} {vs : List Val} → get_elem? here.labels l ≡ some vs → Rule c here (br_if l) (taking (value (num i32) ∷ from_top vs) (values vs))
  -- "A local without a default must be set before it is read."
  rule_local_get : {x : ℕ} {v : Val}
      → get_elem? c.locals x ≡ some v
      → get_elem? here.is_set x ≡ some true
      → Rule c here (local_get x) (taking [] (values (v ∷ [])))
  rule_local_set : {x : ℕ} {v : Val} → get_elem? c.locals x ≡ some v → Rule c here (local_set x) (setting x (value v ∷ []) (values []))
  rule_local_tee : {x : ℕ} {v : Val} → get_elem? c.locals x ≡ some v → Rule c here (local_tee x) (setting x (value v ∷ []) (values (v ∷ [])))
  rule_i32_const : {n : ℕ} → Rule c here (i32_const n) (taking [] (values (num i32 ∷ [])))
  rule_i64_const : {n : ℕ} → Rule c here (i64_const n) (taking [] (values (num i64 ∷ [])))
  rule_f32_const : {n : ℕ} → Rule c here (f32_const n) (taking [] (values (num f32 ∷ [])))
  rule_f64_const : {n : ℕ} → Rule c here (f64_const n) (taking [] (values (num f64 ∷ [])))
  -- "the numeric codes 45 to C4, with the operand and result kinds of the core standard" (request 1 of document 02): the line of
  -- the code in the list by name
  rule_numeric : {b : ℕ} {ks : List Number} {r : Number} → Listed b ks r → Rule c here (numeric b) (taking (from_top (map num ks)) (values (num r ∷ [])))
  rule_ref_null : {h : Heap} → HeapReached c.count h → Rule c here (ref_null h) (taking [] (values (nullable h ∷ [])))
  rule_ref_is_null : Rule c here ref_is_null (taking (any_reference ∷ []) (values (num i32 ∷ [])))
  rule_ref_eq : Rule c here ref_eq (taking (value (nullable (abstract EQ)) ∷ value (nullable (abstract EQ)) ∷ []) (values (num i32 ∷ [])))
  rule_ref_as_non_null : Rule c here ref_as_non_null (taking (any_reference ∷ []) it_non_null)
  -- "struct.new and its default take only types with no descriptor. .. All give (ref (exact x))."
  rule_struct_new : {x : ℕ} {fs : List Field}
      → StructType c x fs
      → (c.types x).descriptor ≡ none
      → Rule c here (struct_new x) (taking (from_top (holds_of fs)) (values (non_null (exact x) ∷ [])))
  rule_struct_new_default : {x : ℕ} {fs : List Field}
      → StructType c x fs
      → (c.types x).descriptor ≡ none
      → Each Default (holds_of fs)
      → Rule c here (struct_new_default x) (taking [] (values (non_null (exact x) ∷ [])))
  rule_struct_get : {x i : ℕ} {f : Field} → FieldOf c x i f → Rule c here (struct_get x i) (taking (value (nullable (defined x)) ∷ []) (values (f.holds ∷ [])))
  rule_struct_set : {x i : ℕ} {f : Field}
      → FieldOf c x i f
      → f.mutable ≡ true
      → Rule c here (struct_set x i) (taking (value f.holds ∷ value (nullable (defined x)) ∷ []) (values []))
  -- "ref.test and ref.cast take any reference of the target's hierarchy."
  rule_ref_test : {n : Bool} {h : Heap} {t : Abstract}
      → HeapReached c.count h
      → TopOf c.types h t
      → Rule c here (ref_test n h) (taking (value (nullable (abstract t)) ∷ []) (values (num i32 ∷ [])))
  rule_ref_cast : {n : Bool} {h : Heap} {t : Abstract}
      → HeapReached c.count h
      → TopOf c.types h t
      → Rule c here (ref_cast n h) (taking (value (nullable (abstract t)) ∷ []) (values (ref n h ∷ [])))
  -- "The plain form carries the target and falls through with the rest, the fail form the other way round."
  rule_br_on_cast : {k : Cast} {rest : Val} {vs : List Val}
      → Rest k rest
      → Branching c here k (cast_target k) vs
      → Rule c here (br_on_cast k) (taking (value (cast_source k) ∷ from_top vs) (values (vs ++ rest ∷ [])))
  rule_br_on_cast_fail : {k : Cast} {rest : Val} {vs : List Val}
      → Rest k rest
      → Branching c here k rest vs
      → Rule c here (br_on_cast_fail k) (taking (value (cast_source k) ∷ from_top vs) (values (vs ++ cast_target k ∷ [])))
  -- "The _desc ones take the fields (default: none), then (ref null (exact y)) on top."
  rule_struct_new_desc : {x y : ℕ} {fs : List Field}
      → StructType c x fs
      → (c.types x).descriptor ≡ some y
      → Rule c here (struct_new_desc x) (taking (value (nullable (exact y)) ∷ from_top (holds_of fs)) (values (non_null (exact x) ∷ [])))
  rule_struct_new_default_desc : {x y : ℕ} {fs : List Field}
      → StructType c x fs
      → (c.types x).descriptor ≡ some y
      → Each Default (holds_of fs)
      → Rule c here (struct_new_default_desc x) (taking (value (nullable (exact y)) ∷ []) (values (non_null (exact x) ∷ [])))
  -- "ref.get_desc x takes (ref null x) and gives (ref y), exact when the operand is below (ref null (exact x))."
  rule_ref_get_desc : {x y : ℕ}
      → x < c.count
      → (c.types x).descriptor ≡ some y
      → Rule c here (ref_get_desc x) (taking (value (nullable (defined x)) ∷ []) (its_descriptor x y))
  -- "ref.cast_desc_eq to x takes a reference below any, then (ref null y) on top, exact y when the target is exact."
  rule_ref_cast_desc_eq : {n : Bool} {h d : Heap}
      → HeapReached c.count h
      → CastTakes c.types h d
      → Rule c here (ref_cast_desc_eq n h) (taking (value (nullable d) ∷ value (nullable (abstract ANY)) ∷ []) (values (ref n h ∷ [])))
  rule_br_on_cast_desc_eq : {k : Cast} {rest : Val} {d : Heap} {vs : List Val}
      → Rest k rest
      → Branching c here k (cast_target k) vs
      → CastTakes c.types k.target d
      → Rule c here (br_on_cast_desc_eq k) (taking (value (nullable d) ∷ value (cast_source k) ∷ from_top vs) (values (vs ++ rest ∷ [])))
  rule_br_on_cast_desc_eq_fail : {k : Cast} {rest : Val} {d : Heap} {vs : List Val}
      → Rest k rest
      → Branching c here k rest vs
      → CastTakes c.types k.target d
      → Rule c here (br_on_cast_desc_eq_fail k) (taking (value (nullable d) ∷ value (cast_source k) ∷ from_top vs) (values (vs ++ cast_target k ∷ [])))
