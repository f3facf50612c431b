-- Traps 41 to 46, each with its instructions and what lies on the stack. "41 unreachable; 42 null used by get, set, as_non_null or
-- ref.get_desc; 43 null descriptor, looked at before the object and before room; 44 cast failed; 45 exactly when 1,024 objects
-- exist or fewer than the needed cells are left of 4,096"; request 1: "Another numeric code stops the run with new trap 46".
use Rattle.std.specs.Prelude.{ℕ, Bool, List, ◌∷◌, length}
use Rattle.scope.specs.Refusals.{trap_unreachable, trap_null, trap_null_descriptor, trap_cast, trap_no_room, trap_other_numeric}
use Rattle.scope.specs.Syntax.{Heap, Types}
use Rattle.scope.specs.Instructions.{Cast, Op, unreachable, ref_as_non_null, struct_get, struct_set, ref_cast, struct_new_desc, struct_new_default_desc, ref_get_desc, ref_cast_desc_eq, br_on_cast_desc_eq, br_on_cast_desc_eq_fail}
use Rattle.scope.specs.Machine.{Value, null, object, Object, Store}
use Rattle.facts_runs.specs.NoRoom.{NoRoom}
use Rattle.facts_runs.specs.OtherNumeric.{OtherNumeric}
use Rattle.facts_steps.specs.Casts.{Fails, NotDescribed}
use Rattle.facts_steps.specs.Making.{Makes}

-- 42
pub data NullUsed : List Value → Op → Type 0 where
  by_as_non_null : {vs : List Value} → NullUsed (null ∷ vs) ref_as_non_null
  by_get : {x i : ℕ} {vs : List Value} → NullUsed (null ∷ vs) (struct_get x i)
  by_set : {x i : ℕ} {new : Value} {vs : List Value} → NullUsed (new ∷ null ∷ vs) (struct_set x i)
  by_get_desc : {x : ℕ} {vs : List Value} → NullUsed (null ∷ vs) (ref_get_desc x)

-- 43: whatever lies below the descriptor
pub data NullDescriptor : List Value → Op → Type 0 where
  by_new_desc : {x : ℕ} {vs : List Value} → NullDescriptor (null ∷ vs) (struct_new_desc x)
  by_new_default_desc : {x : ℕ} {vs : List Value} → NullDescriptor (null ∷ vs) (struct_new_default_desc x)
  by_cast_desc_eq : {n : Bool} {h : Heap} {vs : List Value} → NullDescriptor (null ∷ vs) (ref_cast_desc_eq n h)
  by_br_on_cast_desc_eq : {k : Cast} {vs : List Value} → NullDescriptor (null ∷ vs) (br_on_cast_desc_eq k)
  by_br_on_cast_desc_eq_fail : {k : Cast} {vs : List Value} → NullDescriptor (null ∷ vs) (br_on_cast_desc_eq_fail k)

-- 44
pub data CastFailed (ts : Types) (heap : Store) : List Value → Op → Type 0 where
  by_cast : {n : Bool} {h : Heap} {v : Value} {vs : List Value} → Fails ts heap n h v → CastFailed ts heap (v ∷ vs) (ref_cast n h)
  by_desc_eq : {n : Bool} {h : Heap} {d : ℕ} {v : Value} {vs : List Value} → NotDescribed heap n d v → CastFailed ts heap (object d ∷ v ∷ vs) (ref_cast_desc_eq n h)

-- 45
pub data NoRoomLeft (ts : Types) (heap : Store) (vs : List Value) (o : Op) : Type 0 where
  no_room_for : {it : Object} {below : List Value} → Makes ts vs o it below → NoRoom heap (length it.fields) → NoRoomLeft ts heap vs o

pub data Traps (ts : Types) (heap : Store) (vs : List Value) : Op → ℕ → Type 0 where
  trap_41 : Traps ts heap vs unreachable trap_unreachable
  trap_42 : {o : Op} → NullUsed vs o → Traps ts heap vs o trap_null
  trap_43 : {o : Op} → NullDescriptor vs o → Traps ts heap vs o trap_null_descriptor
  trap_44 : {o : Op} → CastFailed ts heap vs o → Traps ts heap vs o trap_cast
  trap_45 : {o : Op} → NoRoomLeft ts heap vs o → Traps ts heap vs o trap_no_room
  trap_46 : {o : Op} → OtherNumeric o → Traps ts heap vs o trap_other_numeric
