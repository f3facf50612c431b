-- When a value belongs to a cast's target, and when not. The order of heap types is said here for the type that an object was
-- made as, which is exact: up its declared supertypes, or by its kind to an abstract type (document 01, type rule 6).
use Rattle.std.specs.Prelude.{ℕ, ◌≤◌, ◌≡◌, Bool, true, false}
use Rattle.std.proofs.Math.Option.{some}
use Rattle.scope.specs.Sizes.{most_steps}
use Rattle.scope.specs.Abstract.{Abstract}
use Rattle.scope.specs.Syntax.{Heap, abstract, defined, exact, Types}
use Rattle.scope.specs.Machine.{Value, null, object, Object, Store}
use Rattle.facts_types.specs.Chains.{Steps}
use Rattle.facts_types.specs.TenTypes.{AbstractOrder}
use Rattle.facts_types.specs.OwnForms.{KindOf}
use Rattle.facts_steps.specs.Places.{Stands}

-- an object made as x belongs to a heap type
pub data Belongs (ts : Types) (x : ℕ) : Heap → Type 0 where
  -- "Nothing else is below exact x."
  as_itself : Belongs ts x (exact x)
  -- "x below its supertype", and so on up
  by_supertypes : {n y : ℕ} → Steps ts n x y → n ≤ most_steps → Belongs ts x (defined y)
  -- "and below struct or func"
  by_kind : {a b : Abstract} → KindOf (ts x).form a → AbstractOrder a b → Belongs ts x (abstract b)

-- ref.test, ref.cast, br_on_cast: null where the target may be null, an object by the type it was made as
pub data Passes (ts : Types) (heap : Store) (null_too : Bool) (h : Heap) : Value → Type 0 where
  null_passes : null_too ≡ true → Passes ts heap null_too h null
  object_passes : {o : ℕ} {it : Object} → Stands o it heap → Belongs ts it.type h → Passes ts heap null_too h (object o)

pub data Fails (ts : Types) (heap : Store) (null_too : Bool) (h : Heap) : Value → Type 0 where
  null_fails : null_too ≡ false → Fails ts heap null_too h null
  object_fails : {o : ℕ} {it : Object} → Stands o it heap → ¬ Belongs ts it.type h → Fails ts heap null_too h (object o)

-- "ref.cast_desc_eq passes when the object's descriptor is the very object given, or on null with a nullable target."
pub data Described (heap : Store) (null_too : Bool) (d : ℕ) : Value → Type 0 where
  null_described : null_too ≡ true → Described heap null_too d null
  object_described : {o : ℕ} {it : Object} → Stands o it heap → it.descriptor ≡ some d → Described heap null_too d (object o)

-- an object without a descriptor is among these
pub data NotDescribed (heap : Store) (null_too : Bool) (d : ℕ) : Value → Type 0 where
  null_not_described : null_too ≡ false → NotDescribed heap null_too d null
  object_not_described : {o : ℕ} {it : Object} → Stands o it heap → ¬ (it.descriptor ≡ some d) → NotDescribed heap null_too d (object o)
