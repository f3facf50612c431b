-- Soundness, stated whole: what this file and specs/ say is all that is claimed; proofs/SoundnessHolds.antt proves it.
-- Of every accepted section and body, and of every number of steps from the empty heap with zero or null parameters: the
-- machine goes on, ends with results of the declared types or stops at a trap 41 to 46; every value has the type that the
-- checker knows it by; every object is made as its type says; and an object's type and descriptor never change.
use Rattle.scope.specs.declared.Place.{Place}
use Prim.Native.Nat.{ℕ, ◌+◌, ◌<◌}
use mathlib.Core.Path.{◌≡◌}
use mathlib.Core.Bool.{Bool, true, false}
use mathlib.Core.Option.{Option, none, some}
use mathlib.Core.List.{List, [], ◌∷◌, reverse, Forall₂}
use lib.ListN.{length}
use Rattle.scope.specs.declared.Ran.{Ran}
use Rattle.scope.specs.declared.Ran
use Rattle.scope.specs.Refusals.{trap_unreachable, trap_null, trap_null_descriptor, trap_cast, trap_no_room, trap_other_numeric}
use Rattle.scope.specs.Lists.{every}
use Rattle.scope.specs.Syntax.{Heap, exact, Number, Val, num, ref, Field, Definition, Types, types_of}
use Rattle.scope.specs.Order.{heap_below}
use Rattle.scope.specs.Judging.{accepted}
use Rattle.scope.specs.Instructions.{Instr, op, struct_get, struct_set}
use Rattle.scope.specs.BodyRules.{Context, allowed, fields_of, holds_of, has_default}
use Rattle.scope.specs.Bodies.{Operand, known, Frame, of_block, of_loop, State, goes_on, judge_instr, Code, Body, start_state, context_of, judge_body}
use Rattle.scope.specs.Machine.{Value, number, null, object, Object, Store, object_of, Block, open_block, open_loop, Machine, Program, Outcome, goes, ends, traps, step}
use Rattle.scope.specs.Running.{Ending, done, trapped, spent, run, start_of, program_of, Trial, trial_run}
use Rattle.scope.specs.Memory.{filled, state_words}
use Rattle.scope.specs.Answers.{RunMemory, machine_of, ran_as, RunTried}

-- values and objects

-- a value of a type: a number of that kind; null where the type allows it; an object that is there and whose type is below
-- the declared one. `exact x` has only exact x below it: an object of an exact type was made as that very type.
pub data Has (ts : Types) (heap : Store) : Value → Val → Type 0 where
  of_number : {k : Number} {n : ℕ} → Has ts heap (number k n) (num k)
  of_null : {h : Heap} → Has ts heap null (ref true h)
  of_object : {o : ℕ} {it : Object} {n : Bool} {h : Heap} → object_of heap o ≡ some it → heap_below ts (exact it.type) h ≡ true → Has ts heap (object o) (ref n h)

-- an operand: the checker knows its type, which is no unknown
pub data HasOperand (ts : Types) (heap : Store) : Value → Operand → Type 0 where
  of_known : {v : Value} {t : Val} → Has ts heap v t → HasOperand ts heap v (known t)

-- a local: no value, or one of its type
pub data HasLocal (ts : Types) (heap : Store) : Option Value → Val → Type 0 where
  no_value : {t : Val} → HasLocal ts heap none t
  its_value : {v : Value} {t : Val} → Has ts heap v t → HasLocal ts heap (some v) t

-- a local that the checker takes for set holds a value
pub data Covers : Bool → Option Value → Type 0 where
  not_set : {held : Option Value} → Covers false held
  is_set : {v : Value} → Covers true (some v)

-- the descriptor that a type declares, and an object's: none and none, or an object made as exactly the declared type
pub data Described (heap : Store) : Option ℕ → Option ℕ → Type 0 where
  no_descriptor : Described heap none none
  its_descriptor : {y d : ℕ} {it : Object} → object_of heap d ≡ some it → it.type ≡ y → Described heap (some y) (some d)

-- an object made as its type declares: as many fields, each of the declared kind; its descriptor
pub record WellMade (ds : List Definition) (heap : Store) (it : Object) : Type 0 where
  pub in_section : it.type < length ds
  pub fields : List Field
  pub declared : fields_of (types_of ds it.type).form ≡ some fields
  pub held : Forall₂ (Has (types_of ds) heap) it.fields (holds_of fields)
  pub described : Described heap (types_of ds it.type).descriptor it.descriptor

pub record HeapTyped (ds : List Definition) (heap : Store) : Type 0 where
  pub well_made : (o : ℕ) {it : Object} → object_of heap o ≡ some it → WellMade ds heap it

-- an object's type and descriptor do not change
pub record Same (it later : Object) : Type 0 where
  pub type : later.type ≡ it.type
  pub descriptor : later.descriptor ≡ it.descriptor

pub record Grows (heap later : Store) : Type 0 where
  pub keeps : (o : ℕ) {it : Object} → object_of heap o ≡ some it → (now : Object) × (object_of later o ≡ some now) × Same it now

-- states

abbrev pub context_for : Body → Context
context_for b = context_of b.types b.function b.locals

-- the checker comes to stand in this state where this code is left: its own state at that place
pub data Stands (b : Body) : State → Code → Type 0 where
  first : Stands b (start_state b.function b.locals) b.code
  further : {st later : State} {i : ℕ × Instr} {code : Code} → Stands b st (i ∷ code) → judge_instr (context_for b) st i.1 ≡ allowed (goes_on later) → Stands b later code

-- the checker's state at the start of a loop's code
abbrev pub loop_state : List Val → List Operand → List Bool → List Frame → State
loop_state rs os set fs = record { frames = of_loop rs os false set ∷ fs; operands = []; dead = false; is_set = set }

-- the open blocks, one to one: the operands below each have their types, what was set around it holds values, and the
-- checker stood where a loop's code begins
pub data BlocksTyped (b : Body) (heap : Store) (locals : List (Option Value)) : List Frame → List Block → Type 0 where
  no_block : BlocksTyped b heap locals [] []
  in_block :
      {rs : List Val} {os : List Operand} {set : List Bool} {fs : List Frame} {at : ℕ} {below : List Value} {bs : List Block}
      → Forall₂ (HasOperand (types_of b.types) heap) below os → Forall₂ Covers set locals → BlocksTyped b heap locals fs bs
      → BlocksTyped b heap locals (of_block rs os false set ∷ fs) (open_block at (length rs) below ∷ bs)
  in_loop :
      {rs : List Val} {os : List Operand} {set : List Bool} {fs : List Frame} {at : ℕ} {below : List Value} {again : Code} {bs : List Block}
      → Forall₂ (HasOperand (types_of b.types) heap) below os → Forall₂ Covers set locals → Stands b (loop_state rs os set fs) again → BlocksTyped b heap locals fs bs
      → BlocksTyped b heap locals (of_loop rs os false set ∷ fs) (open_loop at below again ∷ bs)

-- heap and locals
pub record StoreTyped (b : Body) (heap : Store) (locals : List (Option Value)) : Type 0 where
  pub objects : HeapTyped b.types heap
  pub values : Forall₂ (HasLocal (types_of b.types) heap) locals (context_for b).locals

-- a machine against a state of the checker
pub record Typed (b : Body) (st : State) (m : Machine) : Type 0 where
  pub store : StoreTyped b m.heap m.locals
  pub operands : Forall₂ (HasOperand (types_of b.types) m.heap) m.operands st.operands
  pub set : Forall₂ Covers st.is_set m.locals
  pub blocks : BlocksTyped b m.heap m.locals st.frames m.blocks

-- the machine where it goes on: typed against the checker's own state at its place, where nothing is unknown
pub record TypedHere (b : Body) (m : Machine) : Type 0 where
  pub state : State
  pub stands : Stands b state m.code
  pub alive : state.dead ≡ false
  pub typed : Typed b state m

-- the machine when it is done: its operands are results of the declared types, the last on top
pub record TypedDone (b : Body) (m : Machine) : Type 0 where
  pub store : StoreTyped b m.heap m.locals
  pub results : Forall₂ (Has (types_of b.types) m.heap) m.operands (reverse b.function.results)
  pub closed : m.blocks ≡ []
  pub over : m.code ≡ []

-- steps

-- the traps 41 to 46
pub data Trap : ℕ → Type 0 where
  is_unreachable : Trap trap_unreachable
  is_null : Trap trap_null
  is_null_descriptor : Trap trap_null_descriptor
  is_cast : Trap trap_cast
  is_no_room : Trap trap_no_room
  is_other_numeric : Trap trap_other_numeric

-- what a step may come to: it is not stuck
pub data Proceeds (b : Body) (heap : Store) : Outcome → Type 0 where
  proceeds : {m : Machine} → TypedHere b m → Grows heap m.heap → Proceeds b heap (goes m)
  is_over : {m : Machine} → TypedDone b m → Grows heap m.heap → Proceeds b heap (ends m)
  is_trap : {n : ℕ} → Trap n → Proceeds b heap (traps n)

-- the machine after so many steps
pub data Reaches (p : Program) (m : Machine) : ℕ → Machine → Type 0 where
  at_first : Reaches p m 0 m
  one_more : {n : ℕ} {k later : Machine} → Reaches p m n k → step p k ≡ goes later → Reaches p m (n + 1) later

-- an accepted body whose function has parameters with defaults
pub record Runs (library section s : List ℕ) (x : ℕ) (b : Body) : Type 0 where
  pub is_accepted : judge_body library section s x ≡ accepted b
  pub defaults : every has_default b.function.parameters ≡ true

-- how a run of so many steps ends: its machine is the one after exactly its steps, and it is never `wrong`
pub data EndsWell (b : Body) (budget : ℕ) : Ending → Type 0 where
  is_done :
      {n : ℕ} {m last : Machine} → n < budget → Reaches (program_of b) (start_of b) n m → step (program_of b) m ≡ ends last → TypedDone b last
      → EndsWell b budget (done (n + 1) last)
  is_trapped :
      {n t : ℕ} {m : Machine} → n < budget → Reaches (program_of b) (start_of b) n m → step (program_of b) m ≡ traps t → Trap t → TypedHere b m
      → EndsWell b budget (trapped t (n + 1) m)
  is_spent : {m : Machine} → Reaches (program_of b) (start_of b) budget m → TypedHere b m → EndsWell b budget (spent budget m)

-- the public run: its answer and the state that lent memory holds are those of a run that ends well
pub record RanSoundly (s : List ℕ) (b : Body) (budget : ℕ) (lent later : RunMemory) (r : Ran) : Type 0 where
  pub ending : Ending
  pub ends_well : EndsWell b budget ending
  pub answer : r ≡ ran_as s ending
  pub counts : later.state.counts ≡ filled lent.state.counts (state_words s (machine_of ending)).counts
  pub objects : later.state.objects ≡ filled lent.state.objects (state_words s (machine_of ending)).objects
  pub cells : later.state.cells ≡ filled lent.state.cells (state_words s (machine_of ending)).cells
  pub locals : later.state.locals ≡ filled lent.state.locals (state_words s (machine_of ending)).locals
  pub operands : later.state.operands ≡ filled lent.state.operands (state_words s (machine_of ending)).operands
  pub blocks : later.state.blocks ≡ filled lent.state.blocks (state_words s (machine_of ending)).blocks

pub data Answered (library section s : List ℕ) (x budget : ℕ) (lent later : RunMemory) : Ran → Type 0 where
  said_no : {n : ℕ} {p : Place} → Answered library section s x budget lent later (Ran.TheVariants.Refused n p)
  ran : {b : Body} {r : Ran} → Runs library section s x b → RanSoundly s b budget lent later r → Answered library section s x budget lent later r

-- the place i lies inside the object that is there
pub record FieldInside (heap : Store) (o i : ℕ) : Type 0 where
  pub it : Object
  pub there : object_of heap o ≡ some it
  pub inside : i < length it.fields

-- the theorem

pub record Soundness : Type 0 where
  -- after every number of steps each operand, local and field has its type, and each object is made as its type declares
  pub typed : {library section s : List ℕ} {x : ℕ} {b : Body} {n : ℕ} {m : Machine} → Runs library section s x b → Reaches (program_of b) (start_of b) n m → TypedHere b m
  -- and the state of the checker that this is said against is the only one at that place
  pub one_state : {b : Body} {st now : State} {code : Code} → Stands b st code → Stands b now code → st ≡ now
  -- no step finds a value missing or of the wrong kind
  pub next :
      {library section s : List ℕ} {x : ℕ} {b : Body} {n : ℕ} {m : Machine} → Runs library section s x b → Reaches (program_of b) (start_of b) n m
      → Proceeds b m.heap (step (program_of b) m)
  -- a reference of an exact type is null where that type allows it or names an object made as that very type
  pub exactly : {ts : Types} {heap : Store} {o x : ℕ} {n : Bool} {it : Object} → Has ts heap (object o) (ref n (exact x)) → object_of heap o ≡ some it → it.type ≡ x
  pub nullable : {ts : Types} {heap : Store} {n : Bool} {h : Heap} → Has ts heap null (ref n h) → n ≡ true
  -- an object's type and descriptor never change from the step that makes it on
  pub lasting :
      {library section s : List ℕ} {x : ℕ} {b : Body} {n j : ℕ} {k m : Machine} → Runs library section s x b → Reaches (program_of b) (start_of b) n k
      → Reaches (program_of b) k j m → Grows k.heap m.heap
  -- the same of a run with a budget, of the trial run, and of the public run's answer and memory
  pub ended : {library section s : List ℕ} {x : ℕ} {b : Body} → Runs library section s x b → (budget : ℕ) → EndsWell b budget (run (program_of b) budget 0 (start_of b))
  pub tried :
      (library section s : List ℕ) (x budget : ℕ) {t : Trial} → trial_run library section s x budget ≡ accepted t
      → Runs library section s x t.body × EndsWell t.body budget t.ending
  pub answered :
      {library section s : List ℕ} {x budget : ℕ} {lent later : RunMemory} {r : Ran} → RunTried library section s x budget lent later r
      → Answered library section s x budget lent later r
  -- so a trap in the public answer is one of the six, and never the number that stands for a stuck machine
  pub named : {library section s : List ℕ} {x budget t p n : ℕ} {lent later : RunMemory} → RunTried library section s x budget lent later (Ran.TheVariants.Trapped t p n) → Trap t

-- The incident: a field that is read or written lies inside the object that is there, however the reference came to be:
-- through a supertype, a cast, a descriptor cast or a branch.
pub record NoFieldOutside : Type 0 where
  pub read :
      {library section s : List ℕ} {x : ℕ} {b : Body} {n : ℕ} {m : Machine} {at y i o : ℕ} {code : Code} {below : List Value}
      → Runs library section s x b → Reaches (program_of b) (start_of b) n m
      → m.code ≡ (at, op (struct_get y i)) ∷ code → m.operands ≡ object o ∷ below → FieldInside m.heap o i
  pub written :
      {library section s : List ℕ} {x : ℕ} {b : Body} {n : ℕ} {m : Machine} {at y i o : ℕ} {code : Code} {v : Value} {below : List Value}
      → Runs library section s x b → Reaches (program_of b) (start_of b) n m
      → m.code ≡ (at, op (struct_set y i)) ∷ code → m.operands ≡ v ∷ object o ∷ below → FieldInside m.heap o i
