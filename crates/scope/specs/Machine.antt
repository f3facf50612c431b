-- The machine of the trial run: values, objects, the heap with its two limits, locals, operands, open blocks and place;
-- one step for each instruction; traps 41 to 46 in the order in which they are looked at.
use Rattle.std.specs.Prelude.{ℕ, zero, suc, ◌+◌, Bool, true, false, cond, ◌&&◌, List, [], ◌∷◌, ◌++◌, map, reverse, length, set, eqb, ltb, leb}
use Rattle.std.proofs.Math.Option.{Option, none, some}
use Rattle.std.proofs.Math.ListN.{get_elem?}
use Rattle.scope.specs.Sizes.{most_objects, most_cells}
use Rattle.scope.specs.Refusals.{trap_unreachable, trap_null, trap_null_descriptor, trap_cast, trap_no_room, trap_other_numeric}
use Rattle.scope.specs.Reading.{given}
use Rattle.scope.specs.Lists.{sum, is_none}
use Rattle.scope.specs.Syntax.{Heap, exact, Number, i32, i64, f32, f64, Val, num, ref, Types}
use Rattle.scope.specs.Order.{same_number, heap_below}
use Rattle.scope.specs.Numeric.{Numeric, numeric_of}
use Rattle.scope.specs.Arithmetic.{as_bits, Deed, of_one, of_two, deed_of}
use Rattle.scope.specs.Instructions.{Op, unreachable, nop, return, drop_value, br, br_if, local_get, local_set, local_tee, i32_const, i64_const, f32_const, f64_const, numeric, ref_null, ref_is_null, ref_eq, ref_as_non_null, struct_new, struct_new_default, struct_get, struct_set, ref_test, ref_cast, br_on_cast, br_on_cast_fail, struct_new_desc, struct_new_default_desc, ref_get_desc, ref_cast_desc_eq, br_on_cast_desc_eq, br_on_cast_desc_eq_fail, Instr, block, loop, end, op}
use Rattle.scope.specs.BodyRules.{fields_of, holds_of}
use Rattle.scope.specs.Bodies.{Code}

-- a value carries its own kind: a number's kind and bits, null, or an object by its number
pub data Value : Type 0 where
  number : Number → ℕ → Value
  null : Value
  object : ℕ → Value

-- an object: the type it was made as, its descriptor object, its fields
pub record Object : Type 0 where
  pub type : ℕ
  pub descriptor : Option ℕ
  pub fields : List Value

-- "Objects are numbered from 0 as they are made."
abbrev pub Store : Type 0
Store = List Object

-- the store is reached by an object's number, and changed in two ways; proofs/Stores.antt has the laws
abbrev pub object_of : Store → ℕ → Option Object
object_of os o = get_elem? os o

abbrev pub with_new : Store → Object → Store
with_new os it = os ++ it ∷ []

abbrev pub with_object : Store → ℕ → Object → Store
with_object os o it = set os o it

-- an open block: the place of its instruction, how many values its label takes, the operands below it; a loop has the
-- code after its instruction besides
pub data Block : Type 0 where
  open_block : ℕ → ℕ → List Value → Block
  open_loop : ℕ → List Value → Code → Block

pub record Machine : Type 0 where
  pub heap : Store
  -- "any other holds no value, and so no reference, until it is set"
  pub locals : List (Option Value)
  -- those of the innermost block, the top first
  pub operands : List Value
  -- innermost first; the function's own frame is not among them
  pub blocks : List Block
  -- the instructions from this place on
  pub code : Code

-- what does not change in a run: the types, and how many results the function has
pub record Program : Type 0 where
  pub types : Types
  pub results : ℕ

-- what a step comes to, of any machine. `stuck`: a value is missing or of the wrong kind; demand 3 is that no accepted body
-- comes to it.
pub data OutcomeOf (M : Type 0) : Type 0 where
  goes : M → OutcomeOf M
  ends : M → OutcomeOf M
  traps : ℕ → OutcomeOf M
  stuck : OutcomeOf M

abbrev pub Outcome : Type 0
Outcome = OutcomeOf Machine

-- parts of a state, replaced

abbrev pub with_operands : Machine → List Value → Machine
with_operands m vs = record { heap = m.heap; locals = m.locals; operands = vs; blocks = m.blocks; code = m.code }

abbrev pub with_heap : Machine → Store → Machine
with_heap m os = record { heap = os; locals = m.locals; operands = m.operands; blocks = m.blocks; code = m.code }

abbrev pub with_locals : Machine → List (Option Value) → Machine
with_locals m ls = record { heap = m.heap; locals = ls; operands = m.operands; blocks = m.blocks; code = m.code }

abbrev pub with_control : Machine → List Value → List Block → Code → Machine
with_control m vs bs code = record { heap = m.heap; locals = m.locals; operands = vs; blocks = bs; code = code }

-- values of a kind

abbrev pub on_i32 : Value → (ℕ → Outcome) → Outcome
on_i32 (number i32 n) f = f n
on_i32 (number i64 n) f = stuck
on_i32 (number f32 n) f = stuck
on_i32 (number f64 n) f = stuck
on_i32 null f = stuck
on_i32 (object o) f = stuck

-- a number of this kind, by its bits
abbrev pub on_number : Number → Value → (ℕ → Outcome) → Outcome
on_number k (number j n) f = cond (same_number j k) (f n) stuck
on_number k null f = stuck
on_number k (object o) f = stuck

-- a reference: none where it is null
abbrev pub on_reference : Value → (Option ℕ → Outcome) → Outcome
on_reference (number k n) f = stuck
on_reference null f = f none
on_reference (object o) f = f (some o)

-- a reference that may not be null here
abbrev pub on_object : Store → ℕ → Value → (ℕ → Object → Outcome) → Outcome
on_object os trap v f = on_reference v (λ r. given r (traps trap) (λ o. given (object_of os o) stuck (f o)))

abbrev pub on_taken : List Value → (Value → List Value → Outcome) → Outcome
on_taken [] f = stuck
on_taken (v ∷ vs) f = f v vs

-- so many from the top: they, and those below
unfoldable pub split_top : ℕ → List Value → Option (List Value × List Value)
split_top zero vs = some ([], vs)
split_top (suc n) [] = none
split_top (suc n) (v ∷ vs) = given (split_top n vs) none (λ r. some (v ∷ r.0, r.1))

abbrev pub truth : Bool → Value
truth b = number i32 (as_bits b)

-- "zero or null": the value with which a local starts, where its type has a default
abbrev pub default_of : Val → Option Value
default_of (num k) = some (number k 0)
default_of (ref true h) = some null
default_of (ref false h) = none

-- allocation

abbrev pub cells_of : Store → ℕ
cells_of os = sum (map (λ o. length o.fields) os)

-- "45 exactly when 1,024 objects exist or fewer than the needed cells are left of 4,096, an object needing one cell for
-- each field"
abbrev pub has_room : Store → ℕ → Bool
has_room os n = ltb (length os) most_objects && leb (cells_of os + n) most_cells

abbrev pub make : Machine → ℕ → Option ℕ → List Value → List Value → Outcome
make m x d fields below =
    cond (has_room m.heap (length fields))
    (goes (with_operands (with_heap m (with_new m.heap (record { type = x; descriptor = d; fields = fields }))) (object (length m.heap) ∷ below)))
    (traps trap_no_room)

-- the fields of a new object: from the stack, the last on top; or each type's default
abbrev pub make_given : Program → Machine → ℕ → Option ℕ → List Value → Outcome
make_given p m x d vs =
    given (fields_of (p.types x).form) stuck (λ fs.
    given (split_top (length fs) vs) stuck (λ s. make m x d (reverse s.0) s.1))

unfoldable pub defaults_of : List Val → Option (List Value)
defaults_of [] = some []
defaults_of (v ∷ vs) = given (default_of v) none (λ d. given (defaults_of vs) none (λ ds. some (d ∷ ds)))

abbrev pub make_default : Program → Machine → ℕ → Option ℕ → List Value → Outcome
make_default p m x d vs =
    given (fields_of (p.types x).form) stuck (λ fs.
    given (defaults_of (holds_of fs)) stuck (λ values. make m x d values vs))

-- "43 null descriptor, looked at before the object and before room": the descriptor is on top
abbrev pub on_descriptor : List Value → (ℕ → List Value → Outcome) → Outcome
on_descriptor vs f = on_taken vs (λ d below. on_reference d (λ r. given r (traps trap_null_descriptor) (λ o. f o below)))

-- casts

-- does the value belong to the target? null where the target may be null, an object by the type it was made as
abbrev pub cast_passes : Types → Store → Bool → Heap → Value → (Bool → Outcome) → Outcome
cast_passes ts os null_too h v f =
    on_reference v (λ r. given r (f null_too) (λ o. given (object_of os o) stuck (λ x. f (heap_below ts (exact x.type) h))))

-- "ref.cast_desc_eq passes when the object's descriptor is the very object given, or on null with a nullable target."
abbrev pub is_very : Option ℕ → ℕ → Bool
is_very d o = given d false (λ e. eqb e o)

abbrev pub descriptor_cast_passes : Store → Bool → ℕ → Value → (Bool → Outcome) → Outcome
descriptor_cast_passes os null_too d v f =
    on_reference v (λ r. given r (f null_too) (λ o. given (object_of os o) stuck (λ x. f (is_very x.descriptor d))))

-- null is the same as null, an object as itself
abbrev pub same_reference : Option ℕ → Option ℕ → Bool
same_reference none none = true
same_reference none (some o) = false
same_reference (some o) none = false
same_reference (some o) (some q) = eqb o q

-- the object with another value in a field
abbrev pub with_field : Object → ℕ → Value → Object
with_field it i v = record { type = it.type; descriptor = it.descriptor; fields = set it.fields i v }

-- the machine with another value in a local that is there
abbrev pub on_set : Machine → ℕ → Value → (Machine → Outcome) → Outcome
on_set m x v f = given (get_elem? m.locals x) stuck (λ old. f (with_locals m (set m.locals x (some v))))

-- numbers

-- a result in place of the operands that it is of; the second operand is on top
abbrev pub calculate : Machine → Numeric → List Value → Deed → Outcome
calculate m kinds vs (of_one f) =
    on_taken vs (λ v below. on_number kinds.kind v (λ a. goes (with_operands m (number kinds.result (f a) ∷ below))))
calculate m kinds vs (of_two f) =
    on_taken vs (λ w others.
    on_taken others (λ v below.
    on_number kinds.kind w (λ b. on_number kinds.kind v (λ a. goes (with_operands m (number kinds.result (f a b) ∷ below))))))

-- "Another numeric code stops the run with new trap 46": whatever its operands are
unfoldable pub do_numeric : Machine → List Value → ℕ → Outcome
do_numeric m vs b = given (deed_of b) (traps trap_other_numeric) (λ deed. given (numeric_of b) stuck (λ kinds. calculate m kinds vs deed))

-- branches

-- how many ends are to be passed after this instruction, where one more than n were before it
abbrev pub ends_left : Instr → ℕ → ℕ
ends_left (block rs) n = suc (suc n)
ends_left (loop rs) n = suc (suc n)
ends_left end n = n
ends_left (op o) n = suc n

-- "a branch out goes past the `end`": the code after so many ends that close what is open here
unfoldable pub past_ends : ℕ → Code → Code
past_ends n [] = []
past_ends zero (i ∷ code) = i ∷ code
past_ends (suc n) (i ∷ code) = past_ends (ends_left i.1 n) code

-- the run is done: the operands are the results, no block is open
abbrev pub finish : Program → Machine → List Value → Outcome
finish p m vs = given (split_top p.results vs) stuck (λ s. ends (with_control m s.0 [] []))

-- to label l: past the end of its block, or "one to a loop to the instruction after its `loop`", the loop kept open
unfoldable pub jump : Program → Machine → ℕ → List Block → List Value → ℕ → Outcome
jump p m l [] vs zero = finish p m vs
jump p m l [] vs (suc k) = stuck
jump p m l (open_block at n below ∷ bs) vs zero =
    given (split_top n vs) stuck (λ s. goes (with_control m (s.0 ++ below) bs (past_ends (suc l) m.code)))
jump p m l (open_loop at below again ∷ bs) vs zero = goes (with_control m [] (open_loop at below again ∷ bs) again)
jump p m l (b ∷ bs) vs (suc k) = jump p m l bs vs k

abbrev pub branch : Program → Machine → ℕ → List Value → Outcome
branch p m l vs = jump p m l m.blocks vs l

-- at `end`
abbrev pub do_end : Program → Machine → List Block → Outcome
do_end p m [] = finish p m m.operands
do_end p m (open_block at n below ∷ bs) = goes (with_control m (m.operands ++ below) bs m.code)
do_end p m (open_loop at below again ∷ bs) = goes (with_control m (m.operands ++ below) bs m.code)

-- one instruction; `m` is the machine past it, `vs` its operands

unfoldable pub do_op : Program → Machine → List Value → Op → Outcome
do_op p m vs unreachable = traps trap_unreachable
do_op p m vs nop = goes m
do_op p m vs return = finish p m vs
do_op p m vs drop_value = on_taken vs (λ v below. goes (with_operands m below))
do_op p m vs (br l) = branch p m l vs
do_op p m vs (br_if l) =
    on_taken vs (λ v below. on_i32 v (λ n. cond (eqb n 0) (goes (with_operands m below)) (branch p m l below)))
do_op p m vs (local_get x) =
    given (get_elem? m.locals x) stuck (λ held. given held stuck (λ v. goes (with_operands m (v ∷ vs))))
do_op p m vs (local_set x) = on_taken vs (λ v below. on_set m x v (λ after. goes (with_operands after below)))
do_op p m vs (local_tee x) = on_taken vs (λ v below. on_set m x v goes)
do_op p m vs (i32_const n) = goes (with_operands m (number i32 n ∷ vs))
do_op p m vs (i64_const n) = goes (with_operands m (number i64 n ∷ vs))
do_op p m vs (f32_const n) = goes (with_operands m (number f32 n ∷ vs))
do_op p m vs (f64_const n) = goes (with_operands m (number f64 n ∷ vs))
do_op p m vs (numeric b) = do_numeric m vs b
do_op p m vs (ref_null h) = goes (with_operands m (null ∷ vs))
do_op p m vs ref_is_null = on_taken vs (λ v below. on_reference v (λ r. goes (with_operands m (truth (is_none r) ∷ below))))
do_op p m vs ref_eq =
    on_taken vs (λ v others.
    on_taken others (λ w below.
    on_reference v (λ r. on_reference w (λ q. goes (with_operands m (truth (same_reference r q) ∷ below))))))
do_op p m vs ref_as_non_null =
    on_taken vs (λ v below. on_reference v (λ r. given r (traps trap_null) (λ o. goes (with_operands m (object o ∷ below)))))
do_op p m vs (struct_new x) = make_given p m x none vs
do_op p m vs (struct_new_default x) = make_default p m x none vs
do_op p m vs (struct_get x i) =
    on_taken vs (λ v below.
    on_object m.heap trap_null v (λ o it.
    given (get_elem? it.fields i) stuck (λ held. goes (with_operands m (held ∷ below)))))
do_op p m vs (struct_set x i) =
    on_taken vs (λ new others.
    on_taken others (λ v below.
    on_object m.heap trap_null v (λ o it.
    given (get_elem? it.fields i) stuck (λ old. goes (with_operands (with_heap m (with_object m.heap o (with_field it i new))) below)))))
do_op p m vs (ref_test n h) =
    on_taken vs (λ v below. cast_passes p.types m.heap n h v (λ b. goes (with_operands m (truth b ∷ below))))
do_op p m vs (ref_cast n h) =
    on_taken vs (λ v below. cast_passes p.types m.heap n h v (λ b. cond b (goes (with_operands m (v ∷ below))) (traps trap_cast)))
do_op p m vs (br_on_cast k) =
    on_taken vs (λ v below.
    cast_passes p.types m.heap k.target_null k.target v (λ b. cond b (branch p m k.label vs) (goes m)))
do_op p m vs (br_on_cast_fail k) =
    on_taken vs (λ v below.
    cast_passes p.types m.heap k.target_null k.target v (λ b. cond b (goes m) (branch p m k.label vs)))
do_op p m vs (struct_new_desc x) = on_descriptor vs (λ d below. make_given p m x (some d) below)
do_op p m vs (struct_new_default_desc x) = on_descriptor vs (λ d below. make_default p m x (some d) below)
do_op p m vs (ref_get_desc x) =
    on_taken vs (λ v below.
    on_object m.heap trap_null v (λ o it. given it.descriptor stuck (λ d. goes (with_operands m (object d ∷ below)))))
do_op p m vs (ref_cast_desc_eq n h) =
    on_descriptor vs (λ d others.
    on_taken others (λ v below.
    descriptor_cast_passes m.heap n d v (λ b. cond b (goes (with_operands m others)) (traps trap_cast))))
do_op p m vs (br_on_cast_desc_eq k) =
    on_descriptor vs (λ d others.
    on_taken others (λ v below.
    descriptor_cast_passes m.heap k.target_null d v (λ b. cond b (branch p m k.label others) (goes (with_operands m others)))))
do_op p m vs (br_on_cast_desc_eq_fail k) =
    on_descriptor vs (λ d others.
    on_taken others (λ v below.
    descriptor_cast_passes m.heap k.target_null d v (λ b. cond b (goes (with_operands m others)) (branch p m k.label others))))

-- `at` is the instruction's place
unfoldable pub do_instr : Program → Machine → ℕ → Instr → Outcome
do_instr p m at (block rs) = goes (with_control m [] (open_block at (length rs) m.operands ∷ m.blocks) m.code)
do_instr p m at (loop rs) = goes (with_control m [] (open_loop at m.operands m.code ∷ m.blocks) m.code)
do_instr p m at end = do_end p m m.blocks
do_instr p m at (op o) = do_op p m m.operands o

-- "One instruction is one step, `end` and a trapping one included."
abbrev pub step_on : Program → Machine → Code → Outcome
step_on p m [] = stuck
step_on p m (i ∷ code) = do_instr p (with_control m m.operands m.blocks code) i.0 i.1

unfoldable pub step : Program → Machine → Outcome
step p m = step_on p m m.code
