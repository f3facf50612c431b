-- Rule 2 of one type, as it is asked before the forms of other types are known to be right: of a type number it looks at that
-- type's own form and at its chain. In a table that keeps rule 2 this is the order of rule 6 (proofs/OwnForms.antt); in one that
-- does not, a type's supertype may have another form, and then transitivity is what gives way (proofs/UnequalForms.antt).
use Rattle.std.specs.Prelude.{ℕ, ◌≤◌, Bool, true, false, List}
use Rattle.scope.specs.Sizes.{most_steps}
use Rattle.scope.specs.Abstract.{Abstract, NONE, NOFUNC, STRUCT, FUNC}
use Rattle.scope.specs.Syntax.{Heap, abstract, defined, exact, Number, Val, num, ref, Field, Form, struct, func, Types}
use Rattle.facts_types.specs.TypeRelations.{Supertype, AtLeast, AsMany}
use Rattle.facts_types.specs.Chains.{Steps}
use Rattle.facts_types.specs.TenTypes.{AbstractOrder}

-- "x below its supertype and below struct or func, and the hierarchy's bottom below exact x"
pub data KindOf : Form → Abstract → Type 0 where
  struct_kind : {fs : List Field} → KindOf (struct fs) STRUCT
  func_kind : {ps rs : List Val} → KindOf (func ps rs) FUNC

pub data BottomOf : Form → Abstract → Type 0 where
  struct_bottom : {fs : List Field} → BottomOf (struct fs) NONE
  func_bottom : {ps rs : List Val} → BottomOf (func ps rs) NOFUNC

pub data OwnHeap (ts : Types) : Heap → Heap → Type 0 where
  abstracts : {a b : Abstract} → AbstractOrder a b → OwnHeap ts (abstract a) (abstract b)
  bottom_of_defined : {a : Abstract} {y : ℕ} → BottomOf (ts y).form a → OwnHeap ts (abstract a) (defined y)
  bottom_of_exact : {a : Abstract} {y : ℕ} → BottomOf (ts y).form a → OwnHeap ts (abstract a) (exact y)
  defined_by_kind : {x : ℕ} {a b : Abstract} → KindOf (ts x).form a → AbstractOrder a b → OwnHeap ts (defined x) (abstract b)
  exact_by_kind : {x : ℕ} {a b : Abstract} → KindOf (ts x).form a → AbstractOrder a b → OwnHeap ts (exact x) (abstract b)
  defined_by_chain : {n x y : ℕ} → Steps ts n x y → n ≤ most_steps → OwnHeap ts (defined x) (defined y)
  exact_by_chain : {n x y : ℕ} → Steps ts n x y → n ≤ most_steps → OwnHeap ts (exact x) (defined y)
  exact_itself : {x : ℕ} → OwnHeap ts (exact x) (exact x)

-- "A non-null reference is below the nullable one."
pub data OwnVal (ts : Types) : Val → Val → Type 0 where
  same_number_lem : {n : Number} → OwnVal ts (num n) (num n)
  from_non_null : {m : Bool} {h k : Heap} → OwnHeap ts h k → OwnVal ts (ref false h) (ref m k)
  from_nullable : {h k : Heap} → OwnHeap ts h k → OwnVal ts (ref true h) (ref true k)

-- "a fixed field's type is a subtype, a mutable one's is identical, mutability equal"
pub data OwnField (ts : Types) : Field → Field → Type 0 where
  both_fixed : {v w : Val} → OwnVal ts v w → OwnField ts (record { holds = v; mutable = false }) (record { holds = w; mutable = false })
  both_mutable : {v : Val} → OwnField ts (record { holds = v; mutable = true }) (record { holds = v; mutable = true })

-- "parameters against"
pub data OwnAgainst (ts : Types) (v w : Val) : Type 0 where
  own_against : OwnVal ts w v → OwnAgainst ts v w

-- "Forms are equal. A struct matches its supertype with at least as many fields: .. Functions: same counts, parameters against, results
-- along."
pub data OwnForm (ts : Types) : Form → Form → Type 0 where
  own_structs : {fs gs : List Field} → AtLeast (OwnField ts) fs gs → OwnForm ts (struct fs) (struct gs)
  own_functions : {ps rs qs ss : List Val} → AsMany (OwnAgainst ts) ps qs → AsMany (OwnVal ts) rs ss → OwnForm ts (func ps rs) (func qs ss)

pub record OwnMatches (ts : Types) (x : ℕ) : Type 0 where
  pub matched : {p : ℕ} → Supertype ts x p → OwnForm ts (ts x).form (ts p).form
