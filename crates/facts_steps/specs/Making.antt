-- What an allocation would make: an object of the named struct type, its fields from the stack, the last on top, or each field's
-- default; with a descriptor the object on top. "Objects are numbered from 0 as they are made."
use Rattle.std.specs.Prelude.{ℕ, ◌≡◌, Bool, true, List, [], ◌∷◌, ◌++◌, reverse, length}
use Rattle.std.proofs.Math.Option.{none, some}
use Rattle.scope.specs.Syntax.{Heap, Number, num, ref, Field, struct, Types}
use Rattle.scope.specs.Instructions.{Op, struct_new, struct_new_default, struct_new_desc, struct_new_default_desc}
use Rattle.scope.specs.Machine.{Value, number, null, object, Object}

-- "zero or null"
pub data StartsAt : Field → Value → Type 0 where
  number_zero : {k : Number} {mutable : Bool} → StartsAt (record { holds = num k; mutable = mutable }) (number k 0)
  reference_null : {h : Heap} {mutable : Bool} → StartsAt (record { holds = ref true h; mutable = mutable }) null

-- each field's default, in their order
pub data Defaults : List Field → List Value → Type 0 where
  no_field : Defaults [] []
  one_field : {f : Field} {v : Value} {fs : List Field} {vs : List Value} → StartsAt f v → Defaults fs vs → Defaults (f ∷ fs) (v ∷ vs)

-- the operands, the instruction, the object that it makes, and the operands below
pub data Makes (ts : Types) : List Value → Op → Object → List Value → Type 0 where
  new : {x : ℕ} {fs : List Field} {vs fields below : List Value}
      → (ts x).form ≡ struct fs → length fields ≡ length fs → vs ≡ reverse fields ++ below
      → Makes ts vs (struct_new x) (record { type = x; descriptor = none; fields = fields }) below
  new_default : {x : ℕ} {fs : List Field} {fields below : List Value}
      → (ts x).form ≡ struct fs → Defaults fs fields
      → Makes ts below (struct_new_default x) (record { type = x; descriptor = none; fields = fields }) below
  new_desc : {x d : ℕ} {fs : List Field} {vs fields below : List Value}
      → (ts x).form ≡ struct fs → length fields ≡ length fs → vs ≡ reverse fields ++ below
      → Makes ts (object d ∷ vs) (struct_new_desc x) (record { type = x; descriptor = some d; fields = fields }) below
  new_default_desc : {x d : ℕ} {fs : List Field} {fields below : List Value}
      → (ts x).form ≡ struct fs → Defaults fs fields
      → Makes ts (object d ∷ below) (struct_new_default_desc x) (record { type = x; descriptor = some d; fields = fields }) below
