-- Judging a body: its locals, its frames, its operands, one instruction after the other; the verdict in document 01's
-- order, and the code that an accepted body gives the machine.
use Rattle.std.specs.Prelude.{ℕ, zero, suc, ◌+◌, Bool, true, false, cond, List, [], ◌∷◌, ◌++◌, map, reverse, length, replicate, set, ltb, leb}
use Rattle.std.proofs.Math.Option.{Option, none, some}
use Rattle.scope.specs.Sizes.{most_bytes, most_locals, most_operands, most_frames}
use Rattle.scope.specs.Refusals.{bytes_end, oversize, out_of_reach, bad_operand, not_a_function, values_left, only_null}
use Rattle.scope.specs.Reading.{Read, got, refused, Reader, given, then}
use Rattle.scope.specs.Numbers.{u32}
use Rattle.scope.specs.Lists.{every, joined, sum}
use Rattle.scope.specs.Syntax.{exact, defined, Val, num, ref, nullable, non_null, Form, struct, func, Definition, Types, types_of}
use Rattle.scope.specs.Sections.{val_at, ended}
use Rattle.scope.specs.Order.{Fit, it_fits, but_for_null, unfit, made_non_null, val_below}
use Rattle.scope.specs.TypeRules.{val_names}
use Rattle.scope.specs.Judging.{plain, Judged, accepted, rejected, and_then, judge_sections}
use Rattle.scope.specs.Instructions.{Instr, block, loop, end, op, instr_at}
use Rattle.scope.specs.BodyRules.{Context, Scope, Wanted, value, any_value, any_reference, Gives, values, it_non_null, its_descriptor, Plan, Ruled, allowed, fault, test, and_ruled, from_top, has_default, reached, plan_of}

-- operands

-- the type of an operand. "An unknown is below every type. ref.as_non_null of an unknown is a non-null reference of
-- unknown heap, below every reference type and below no number type."
pub data Operand : Type 0 where
  known : Val → Operand
  unknown : Operand
  unknown_reference : Operand

abbrev pub is_reference : Val → Bool
is_reference (num n) = false
is_reference (ref n h) = true

unfoldable pub fits : Types → Operand → Wanted → Bool
fits ts (known v) (value w) = val_below ts v w
fits ts (known v) any_value = true
fits ts (known v) any_reference = is_reference v
fits ts unknown w = true
fits ts unknown_reference (value w) = is_reference w
fits ts unknown_reference any_value = true
fits ts unknown_reference any_reference = true

-- "ref.as_non_null of an unknown is a non-null reference of unknown heap"
abbrev pub non_null_of : Operand → Operand
non_null_of (known v) = known (made_non_null v)
non_null_of unknown = unknown_reference
non_null_of unknown_reference = unknown_reference

-- An operand's test with its three outcomes, as that of types: the same operand, made non-null, fits.
unfoldable pub fit : Types → Operand → Wanted → Fit
fit ts o w = cond (fits ts o w) it_fits (cond (fits ts (non_null_of o) w) but_for_null unfit)

-- "Wherever that test serves an operand, the second outcome gives new refusal 31 at the same place, and 20 keeps the third and the
-- missing operand."
abbrev pub operand_test : {A : Type 0} → Fit → Ruled A → Ruled A
operand_test it_fits more = more
operand_test but_for_null more = fault only_null
operand_test unfit more = fault bad_operand

-- what was taken, from the top, and what is left
pub record Taken : Type 0 where
  pub taken : List Operand
  pub left : List Operand

abbrev pub also_taken : Operand → Taken → Taken
also_taken o t = record { taken = o ∷ t.taken; left = t.left }

-- Operands from the top: 20 where one is missing; 31 or 20 at the first that does not fit. "After unreachable, br and return the
-- stack yields unknowns."
unfoldable pub take_all : Types → Bool → List Wanted → List Operand → Ruled Taken
take_all ts dead [] os = allowed (record { taken = []; left = os })
take_all ts dead (w ∷ ws) [] =
    let more = and_ruled (take_all ts dead ws []) (λ t. allowed (also_taken unknown t)) in
    test dead bad_operand more
take_all ts dead (w ∷ ws) (o ∷ os) =
    let more = and_ruled (take_all ts dead ws os) (λ t. allowed (also_taken o t)) in
    operand_test (fit ts o w) more

-- the values of a list, the last on top
abbrev pub on_top : List Val → List Operand
on_top vs = map known (reverse vs)

-- what an instruction puts on the stack, by what it took
unfoldable pub put : Types → Gives → List Operand → List Operand
put ts (values vs) os = on_top vs
put ts it_non_null [] = []
put ts it_non_null (o ∷ os) = non_null_of o ∷ []
put ts (its_descriptor x y) [] = []
put ts (its_descriptor x y) (o ∷ os) =
    known (non_null (cond (fits ts o (value (nullable (exact x)))) (exact y) (defined y))) ∷ []

-- frames

-- what an open block keeps: its results, and of what stands around it the operands, whether they may be unknown, and
-- which locals were set. A loop's label has no types.
pub data Frame : Type 0 where
  of_block : List Val → List Operand → Bool → List Bool → Frame
  of_loop : List Val → List Operand → Bool → List Bool → Frame

abbrev pub label_of : Frame → List Val
label_of (of_block rs os dead is_set) = rs
label_of (of_loop rs os dead is_set) = []

abbrev pub outer_of : Frame → List Operand
outer_of (of_block rs os dead is_set) = os
outer_of (of_loop rs os dead is_set) = os

-- where the checker stands: the open blocks, innermost first; of the innermost frame its operands, the top first, and
-- whether unknowns lie below them; which locals are set
pub record State : Type 0 where
  pub frames : List Frame
  pub operands : List Operand
  pub dead : Bool
  pub is_set : List Bool

abbrev pub scope_of : Context → State → Scope
scope_of c st = record { labels = map label_of st.frames ++ c.results ∷ []; is_set = st.is_set }

-- the operands in all frames
abbrev pub operands_in : State → ℕ
operands_in st = length st.operands + sum (map (λ f. length (outer_of f)) st.frames)

-- the body goes on, or its last `end` was read
pub data Next : Type 0 where
  goes_on : State → Next
  finished : Next

-- 4: 512 operands in all frames after an instruction
abbrev pub within_operands : State → Ruled Next
within_operands st = test (leb (operands_in st) most_operands) oversize (allowed (goes_on st))

abbrev pub marked : Option ℕ → List Bool → List Bool
marked none is_set = is_set
marked (some x) is_set = set is_set x true

abbrev pub after_plan : Context → State → Plan → Taken → State
after_plan c st p t =
    record {
      frames = st.frames;
      operands = cond p.stops [] (put c.types p.gives t.taken ++ t.left);
      dead = cond p.stops true st.dead;
      is_set = marked p.marks st.is_set;
    }

unfoldable pub do_plan : Context → State → Plan → Ruled Next
do_plan c st p = and_ruled (take_all c.types st.dead p.wants st.operands) (λ t. within_operands (after_plan c st p t))

-- a block opened after unreachable starts empty and strict. 4: 64 frames, the function's own counted
abbrev pub entered : State → Frame → Ruled Next
entered st f =
    test (ltb (length st.frames + 1) most_frames) oversize
    (allowed (goes_on (record { frames = f ∷ st.frames; operands = []; dead = false; is_set = st.is_set })))

-- 28: values left at `end`
abbrev pub none_left : {A : Type 0} → List Operand → Ruled A → Ruled A
none_left [] more = more
none_left (o ∷ os) more = fault values_left

-- at `end`: the results from the top, then nothing is left
abbrev pub ending : {A : Type 0} → Context → State → List Val → Ruled A → Ruled A
ending c st rs more =
    and_ruled (take_all c.types st.dead (from_top rs) st.operands) (λ t. none_left t.left more)

-- "Sets inside a block are forgotten at its end."
abbrev pub judge_block_end : Context → State → List Frame → List Val → List Operand → Bool → List Bool → Ruled Next
judge_block_end c st fs rs os dead is_set =
    ending c st rs (within_operands (record { frames = fs; operands = on_top rs ++ os; dead = dead; is_set = is_set }))

unfoldable pub judge_end : Context → State → List Frame → Ruled Next
judge_end c st [] = ending c st c.results (allowed finished)
judge_end c st (of_block rs os dead is_set ∷ fs) = judge_block_end c st fs rs os dead is_set
judge_end c st (of_loop rs os dead is_set ∷ fs) = judge_block_end c st fs rs os dead is_set

-- one instruction: its tests in order, then its operands, 28 and 4
unfoldable pub judge_instr : Context → State → Instr → Ruled Next
judge_instr c st (block rs) = reached c (joined (map val_names rs)) (entered st (of_block rs st.operands st.dead st.is_set))
judge_instr c st (loop rs) = reached c (joined (map val_names rs)) (entered st (of_loop rs st.operands st.dead st.is_set))
judge_instr c st end = judge_end c st st.frames
judge_instr c st (op o) = and_ruled (plan_of c (scope_of c st) o) (do_plan c st)

-- the body

-- the instructions with their places
abbrev pub Code : Type 0
Code = List (ℕ × Instr)

abbrev pub on_ruled : {A B : Type 0} → Ruled A → (ℕ → B) → (A → B) → B
on_ruled (allowed x) no' f = f x
on_ruled (fault n) no' f = no' n

abbrev pub on_next : {B : Type 0} → Next → (State → B) → B → B
on_next (goes_on st) f last = f st
on_next finished f last = last

-- The first faulty instruction, at its first byte. There are no more instructions than bytes: `left` of them at most.
unfoldable pub judge_from : ℕ → Context → State → Reader Code
judge_from zero c st s at = refused bytes_end at
judge_from (suc left) c st s at =
    then (instr_at s at) (λ i next.
    on_ruled (judge_instr c st i) (λ number. refused number at) (λ n.
    on_next n (λ later. then (judge_from left c later s next) (λ code stop. got ((at, i) ∷ code) stop)) (got ((at, i) ∷ []) next)))

-- The locals entry by entry: bytes, 6, 4, the last two at the entry's first byte. `n` entries; so many locals stand before.
unfoldable pub locals_at : ℕ → ℕ → ℕ → Reader (List Val)
locals_at types zero before s at = got [] at
locals_at types (suc n) before s at =
    then (u32 s at) (λ k type.
    then (val_at s type) (λ v next.
    let more = then (locals_at types n (before + k) s next) (λ vs stop. got (replicate k v ++ vs) stop) in
    let sized = cond (leb (before + k) most_locals) more (refused oversize at) in
    cond (every (λ x. ltb x types) (val_names v)) sized (refused out_of_reach at)))

-- a function type's parameters and results
pub record Function : Type 0 where
  pub parameters : List Val
  pub results : List Val

abbrev pub function_of : Form → Option Function
function_of (struct fs) = none
function_of (func ps rs) = some (record { parameters = ps; results = rs })

-- an accepted body: the types of both sections, the function's type, the locals after the parameters, the instructions
pub record Body : Type 0 where
  pub types : List Definition
  pub function : Function
  pub locals : List Val
  pub code : Code

-- "An accepted body gives its count of instructions."
abbrev pub instructions : Body → ℕ
instructions b = length b.code

-- a parameter is set, and so is a local with a default
abbrev pub set_at_first : Function → List Val → List Bool
set_at_first f ls = map (λ v. true) f.parameters ++ map has_default ls

abbrev pub start_state : Function → List Val → State
start_state f ls = record { frames = []; operands = []; dead = false; is_set = set_at_first f ls }

abbrev pub context_of : List Definition → Function → List Val → Context
context_of ds f ls =
    record { types = types_of ds; count = length ds; locals = f.parameters ++ ls; results = f.results }

-- a locals list and instructions up to the last `end`; last, 5
unfoldable pub body_at : List Definition → Function → List ℕ → Read Body
body_at ds f s =
    then (u32 s 0) (λ n entries.
    then (locals_at (length ds) n (length f.parameters) s entries) (λ ls first.
    then (judge_from (length s) (context_of ds f ls) (start_state f ls) s first) (λ code stop.
    ended s (record { types = ds; function = f; locals = ls; code = code }) stop)))

abbrev pub judged_of : {A : Type 0} → Read A → Judged A
judged_of (got x stop) = accepted x
judged_of (refused n p) = rejected n (plain p)

-- "A body: section, body size, 27, the locals entry by entry .., then the first faulty instruction ..; last, 5."
-- Its types are those of the joined list. A body that is an input by itself names no input in its places.
unfoldable pub judge_body : List ℕ → List ℕ → List ℕ → ℕ → Judged Body
judge_body library section s x =
    and_then (judge_sections library section) (λ ds.
    let typed = given (function_of (types_of ds x).form) (rejected not_a_function (plain 0)) (λ f. judged_of (body_at ds f s)) in
    cond (ltb most_bytes (length s)) (rejected oversize (plain 0)) typed)
