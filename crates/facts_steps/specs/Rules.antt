-- The instructions of a run as rules, a constructor for each: what lies on the stack before, and what the machine is after. They
-- are the core standard's reductions and 003's, with document 01's words where it says more. Nothing of the computing step
-- (scope's specs/Machine.antt) stands in them but the machine's parts; specs/Laws.antt says that the step is these rules.
use Rattle.std.specs.Prelude.{ℕ, ◌≡◌, Bool, List, [], ◌∷◌, ◌++◌, length}
use Rattle.std.proofs.Math.Option.{Option, some}
use Rattle.scope.specs.Syntax.{Heap, Number, i32, i64, f32, f64, Val}
use Rattle.scope.specs.Instructions.{Cast, Op, unreachable, nop, return, drop_value, br, br_if, local_get, local_set, local_tee, i32_const, i64_const, f32_const, f64_const, numeric, ref_null, ref_is_null, ref_eq, ref_as_non_null, struct_new, struct_new_default, struct_get, struct_set, ref_test, ref_cast, br_on_cast, br_on_cast_fail, struct_new_desc, struct_new_default_desc, ref_get_desc, ref_cast_desc_eq, br_on_cast_desc_eq, br_on_cast_desc_eq_fail, block, loop, end, op}
use Rattle.scope.specs.Bodies.{Code}
use Rattle.scope.specs.Machine.{Value, number, null, object, Object, Store, Block, open_block, open_loop, Machine, Program, Outcome, goes, traps}
use Rattle.facts_runs.specs.NoRoom.{NoRoom}
use Rattle.facts_steps.specs.Places.{Stands, Changed, state}
use Rattle.facts_steps.specs.Numbers.{One, Two}
use Rattle.facts_steps.specs.Casts.{Passes, Fails, Described, NotDescribed}
use Rattle.facts_steps.specs.Making.{Makes}
use Rattle.facts_steps.specs.Branches.{Finishes, Branches}
use Rattle.facts_steps.specs.Trapping.{Traps}

-- what an instruction inside its block comes to: the operands, the top first; `code` is what follows it
pub data Does (p : Program) (heap : Store) (locals : List (Option Value)) (blocks : List Block) (code : Code) : List Value → Op → Outcome → Type 0 where
  -- control
  does_nop : {vs : List Value} → Does p heap locals blocks code vs nop (goes (state heap locals vs blocks code))
  does_return : {vs : List Value} {r : Outcome} → Finishes p heap locals vs r → Does p heap locals blocks code vs return r
  does_br : {l : ℕ} {vs : List Value} {r : Outcome} → Branches p heap locals blocks code l vs r → Does p heap locals blocks code vs (br l) r
  -- br_if: taken on any i32 but zero
  does_br_if_zero : {l : ℕ} {vs : List Value} → Does p heap locals blocks code (number i32 0 ∷ vs) (br_if l) (goes (state heap locals vs blocks code))
  does_br_if : {l n : ℕ} {vs : List Value} {r : Outcome} → ¬ (n ≡ 0) → Branches p heap locals blocks code l vs r → Does p heap locals blocks code (number i32 n ∷ vs) (br_if l) r
  -- operands and locals
  does_drop : {v : Value} {vs : List Value} → Does p heap locals blocks code (v ∷ vs) drop_value (goes (state heap locals vs blocks code))
  does_local_get : {x : ℕ} {v : Value} {vs : List Value} → Stands x (some v) locals → Does p heap locals blocks code vs (local_get x) (goes (state heap locals (v ∷ vs) blocks code))
  does_local_set : {x : ℕ} {v : Value} {vs : List Value} {after : List (Option Value)} → Changed (some v) x locals after → Does p heap locals blocks code (v ∷ vs) (local_set x) (goes (state heap after vs blocks code))
  does_local_tee : {x : ℕ} {v : Value} {vs : List Value} {after : List (Option Value)} → Changed (some v) x locals after → Does p heap locals blocks code (v ∷ vs) (local_tee x) (goes (state heap after (v ∷ vs) blocks code))
  -- numbers
  does_i32_const : {n : ℕ} {vs : List Value} → Does p heap locals blocks code vs (i32_const n) (goes (state heap locals (number i32 n ∷ vs) blocks code))
  does_i64_const : {n : ℕ} {vs : List Value} → Does p heap locals blocks code vs (i64_const n) (goes (state heap locals (number i64 n ∷ vs) blocks code))
  does_f32_const : {n : ℕ} {vs : List Value} → Does p heap locals blocks code vs (f32_const n) (goes (state heap locals (number f32 n ∷ vs) blocks code))
  does_f64_const : {n : ℕ} {vs : List Value} → Does p heap locals blocks code vs (f64_const n) (goes (state heap locals (number f64 n ∷ vs) blocks code))
  does_one : {b a : ℕ} {k r : Number} {f : ℕ → ℕ} {vs : List Value} → One b k r f
      → Does p heap locals blocks code (number k a ∷ vs) (numeric b) (goes (state heap locals (number r (f a) ∷ vs) blocks code))
  -- the second operand is on top
  does_two : {b first second : ℕ} {k r : Number} {f : ℕ → ℕ → ℕ} {vs : List Value} → Two b k r f
      → Does p heap locals blocks code (number k second ∷ number k first ∷ vs) (numeric b) (goes (state heap locals (number r (f first second) ∷ vs) blocks code))
  -- references
  does_ref_null : {h : Heap} {vs : List Value} → Does p heap locals blocks code vs (ref_null h) (goes (state heap locals (null ∷ vs) blocks code))
  does_null_is_null : {vs : List Value} → Does p heap locals blocks code (null ∷ vs) ref_is_null (goes (state heap locals (number i32 1 ∷ vs) blocks code))
  does_object_is_null : {o : ℕ} {vs : List Value} → Does p heap locals blocks code (object o ∷ vs) ref_is_null (goes (state heap locals (number i32 0 ∷ vs) blocks code))
  does_eq_nulls : {vs : List Value} → Does p heap locals blocks code (null ∷ null ∷ vs) ref_eq (goes (state heap locals (number i32 1 ∷ vs) blocks code))
  does_eq_one_object : {o : ℕ} {vs : List Value} → Does p heap locals blocks code (object o ∷ object o ∷ vs) ref_eq (goes (state heap locals (number i32 1 ∷ vs) blocks code))
  does_eq_two_objects : {o q : ℕ} {vs : List Value} → ¬ (o ≡ q) → Does p heap locals blocks code (object o ∷ object q ∷ vs) ref_eq (goes (state heap locals (number i32 0 ∷ vs) blocks code))
  does_eq_null_first : {o : ℕ} {vs : List Value} → Does p heap locals blocks code (object o ∷ null ∷ vs) ref_eq (goes (state heap locals (number i32 0 ∷ vs) blocks code))
  does_eq_null_second : {o : ℕ} {vs : List Value} → Does p heap locals blocks code (null ∷ object o ∷ vs) ref_eq (goes (state heap locals (number i32 0 ∷ vs) blocks code))
  does_as_non_null : {o : ℕ} {vs : List Value} → Does p heap locals blocks code (object o ∷ vs) ref_as_non_null (goes (state heap locals (object o ∷ vs) blocks code))
  -- structs
  does_make : {vs below : List Value} {o : Op} {it : Object} → Makes p.types vs o it below → ¬ NoRoom heap (length it.fields)
      → Does p heap locals blocks code vs o (goes (state (heap ++ it ∷ []) locals (object (length heap) ∷ below) blocks code))
  does_struct_get : {x i o : ℕ} {it : Object} {v : Value} {vs : List Value} → Stands o it heap → Stands i v it.fields
      → Does p heap locals blocks code (object o ∷ vs) (struct_get x i) (goes (state heap locals (v ∷ vs) blocks code))
  does_struct_set : {x i o : ℕ} {it : Object} {v : Value} {fields vs : List Value} {after : Store} → Stands o it heap → Changed v i it.fields fields
      → Changed (record { type = it.type; descriptor = it.descriptor; fields = fields }) o heap after
      → Does p heap locals blocks code (v ∷ object o ∷ vs) (struct_set x i) (goes (state after locals vs blocks code))
  does_get_desc : {x o d : ℕ} {it : Object} {vs : List Value} → Stands o it heap → it.descriptor ≡ some d
      → Does p heap locals blocks code (object o ∷ vs) (ref_get_desc x) (goes (state heap locals (object d ∷ vs) blocks code))
  -- casts
  does_test_yes : {n : Bool} {h : Heap} {v : Value} {vs : List Value} → Passes p.types heap n h v → Does p heap locals blocks code (v ∷ vs) (ref_test n h) (goes (state heap locals (number i32 1 ∷ vs) blocks code))
  does_test_no : {n : Bool} {h : Heap} {v : Value} {vs : List Value} → Fails p.types heap n h v → Does p heap locals blocks code (v ∷ vs) (ref_test n h) (goes (state heap locals (number i32 0 ∷ vs) blocks code))
  does_cast : {n : Bool} {h : Heap} {v : Value} {vs : List Value} → Passes p.types heap n h v → Does p heap locals blocks code (v ∷ vs) (ref_cast n h) (goes (state heap locals (v ∷ vs) blocks code))
  does_cast_desc_eq : {n : Bool} {h : Heap} {d : ℕ} {v : Value} {vs : List Value} → Described heap n d v → Does p heap locals blocks code (object d ∷ v ∷ vs) (ref_cast_desc_eq n h) (goes (state heap locals (v ∷ vs) blocks code))
  -- branching casts: the reference stays on the stack, taken or not; a descriptor does not
  does_on_cast : {k : Cast} {v : Value} {vs : List Value} {r : Outcome} → Passes p.types heap k.target_null k.target v → Branches p heap locals blocks code k.label (v ∷ vs) r
      → Does p heap locals blocks code (v ∷ vs) (br_on_cast k) r
  does_not_on_cast : {k : Cast} {v : Value} {vs : List Value} → Fails p.types heap k.target_null k.target v
      → Does p heap locals blocks code (v ∷ vs) (br_on_cast k) (goes (state heap locals (v ∷ vs) blocks code))
  does_on_fail : {k : Cast} {v : Value} {vs : List Value} {r : Outcome} → Fails p.types heap k.target_null k.target v → Branches p heap locals blocks code k.label (v ∷ vs) r
      → Does p heap locals blocks code (v ∷ vs) (br_on_cast_fail k) r
  does_not_on_fail : {k : Cast} {v : Value} {vs : List Value} → Passes p.types heap k.target_null k.target v
      → Does p heap locals blocks code (v ∷ vs) (br_on_cast_fail k) (goes (state heap locals (v ∷ vs) blocks code))
  does_on_desc_eq : {k : Cast} {d : ℕ} {v : Value} {vs : List Value} {r : Outcome} → Described heap k.target_null d v → Branches p heap locals blocks code k.label (v ∷ vs) r
      → Does p heap locals blocks code (object d ∷ v ∷ vs) (br_on_cast_desc_eq k) r
  does_not_on_desc_eq : {k : Cast} {d : ℕ} {v : Value} {vs : List Value} → NotDescribed heap k.target_null d v
      → Does p heap locals blocks code (object d ∷ v ∷ vs) (br_on_cast_desc_eq k) (goes (state heap locals (v ∷ vs) blocks code))
  does_on_desc_eq_fail : {k : Cast} {d : ℕ} {v : Value} {vs : List Value} {r : Outcome} → NotDescribed heap k.target_null d v → Branches p heap locals blocks code k.label (v ∷ vs) r
      → Does p heap locals blocks code (object d ∷ v ∷ vs) (br_on_cast_desc_eq_fail k) r
  does_not_on_desc_eq_fail : {k : Cast} {d : ℕ} {v : Value} {vs : List Value} → Described heap k.target_null d v
      → Does p heap locals blocks code (object d ∷ v ∷ vs) (br_on_cast_desc_eq_fail k) (goes (state heap locals (v ∷ vs) blocks code))
  -- traps: the machine stays as it is
  does_trap : {vs : List Value} {o : Op} {n : ℕ} → Traps p.types heap vs o n → Does p heap locals blocks code vs o (traps n)

-- one instruction is one step: the operands, the open blocks, and the code from the instruction on
pub data Steps (p : Program) (heap : Store) (locals : List (Option Value)) (vs : List Value) : List Block → Code → Outcome → Type 0 where
  -- a block and a loop begin with no operands of their own; a loop keeps the code after its instruction
  steps_block : {at : ℕ} {rs : List Val} {blocks : List Block} {code : Code}
      → Steps p heap locals vs blocks ((at, block rs) ∷ code) (goes (state heap locals [] (open_block at (length rs) vs ∷ blocks) code))
  steps_loop : {at : ℕ} {rs : List Val} {blocks : List Block} {code : Code}
      → Steps p heap locals vs blocks ((at, loop rs) ∷ code) (goes (state heap locals [] (open_loop at vs code ∷ blocks) code))
  -- `end` of a block, of a loop, and of the function
  steps_block_end : {at from n : ℕ} {below : List Value} {blocks : List Block} {code : Code}
      → Steps p heap locals vs (open_block from n below ∷ blocks) ((at, end) ∷ code) (goes (state heap locals (vs ++ below) blocks code))
  steps_loop_end : {at from : ℕ} {below : List Value} {blocks : List Block} {again code : Code}
      → Steps p heap locals vs (open_loop from below again ∷ blocks) ((at, end) ∷ code) (goes (state heap locals (vs ++ below) blocks code))
  steps_function_end : {at : ℕ} {code : Code} {r : Outcome} → Finishes p heap locals vs r → Steps p heap locals vs [] ((at, end) ∷ code) r
  steps_op : {at : ℕ} {o : Op} {blocks : List Block} {code : Code} {r : Outcome}
      → Does p heap locals blocks code vs o r → Steps p heap locals vs blocks ((at, op o) ∷ code) r
