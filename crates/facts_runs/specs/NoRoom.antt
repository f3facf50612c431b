-- Trap 45 and its condition: "45 exactly when 1,024 objects exist or fewer than the needed cells are left of 4,096, an object needing
-- one cell for each field." An allocation comes to its room once its type is a struct's, its descriptor is no null, and its
-- values are there. proofs/NoRoom.antt proves it both ways.
use Rattle.std.specs.Prelude.{ℕ, ◌+◌, ◌≤◌, ◌<◌, ◌≡◌, ◌↔◌, List, [], ◌∷◌, length}
use Rattle.std.proofs.Math.Option.{some}
use Rattle.scope.specs.Sizes.{most_objects, most_cells}
use Rattle.scope.specs.Refusals.{trap_no_room}
use Rattle.scope.specs.Syntax.{Field, struct}
use Rattle.scope.specs.BodyRules.{holds_of}
use Rattle.scope.specs.Instructions.{Op, struct_new, struct_new_default, struct_new_desc, struct_new_default_desc}
use Rattle.scope.specs.Machine.{Value, object, Object, Store, Machine, Program, traps, split_top, defaults_of, do_op}

-- the objects' cells, one for each field
pub data Cells : Store → ℕ → Type 0 where
  no_cells : Cells [] 0
  more_cells : {it : Object} {more : Store} {n : ℕ} → Cells more n → Cells (it ∷ more) (length it.fields + n)

-- no room for an object of so many fields
pub data NoRoom (heap : Store) (fields : ℕ) : Type 0 where
  all_objects : most_objects ≤ length heap → NoRoom heap fields
  too_few_cells : {used : ℕ} → Cells heap used → most_cells < used + fields → NoRoom heap fields

-- an allocation that comes to its room, and how many fields it needs
pub data ComesToRoom (p : Program) : List Value → Op → ℕ → Type 0 where
  of_new : {x : ℕ} {fs : List Field} {vs : List Value} {split : List Value × List Value}
      → (p.types x).form ≡ struct fs → split_top (length fs) vs ≡ some split → ComesToRoom p vs (struct_new x) (length fs)
  of_default : {x : ℕ} {fs : List Field} {vs values : List Value}
      → (p.types x).form ≡ struct fs → defaults_of (holds_of fs) ≡ some values → ComesToRoom p vs (struct_new_default x) (length fs)
  of_new_desc : {x d : ℕ} {fs : List Field} {vs : List Value} {split : List Value × List Value}
      → (p.types x).form ≡ struct fs → split_top (length fs) vs ≡ some split → ComesToRoom p (object d ∷ vs) (struct_new_desc x) (length fs)
  of_default_desc : {x d : ℕ} {fs : List Field} {vs values : List Value}
      → (p.types x).form ≡ struct fs → defaults_of (holds_of fs) ≡ some values → ComesToRoom p (object d ∷ vs) (struct_new_default_desc x) (length fs)

pub record TrapsNoRoom (p : Program) (heap : Store) (vs : List Value) (o : Op) : Type 0 where
  pub fields : ℕ
  pub comes : ComesToRoom p vs o fields
  pub no_room : NoRoom heap fields

pub record FortyFive : Type 0 where
  pub exactly : (p : Program) (m : Machine) (vs : List Value) (o : Op) → (do_op p m vs o ≡ traps trap_no_room) ↔ TrapsNoRoom p m.heap vs o
