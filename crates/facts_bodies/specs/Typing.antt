-- When a body is allowed: an instruction from a state to the next one, a sequence up to the last `end`, the bytes of which
-- locals and instructions are read, and all of it together. proofs/Main.antt shows that these are the bodies accepted.
use Rattle.std.specs.Prelude.{ℕ, ◌+◌, ◌≤◌, ◌<◌, ◌≡◌, Bool, true, false, List, [], ◌∷◌, ◌++◌, length, replicate}
use Rattle.std.proofs.Math.Option.{some}
use Rattle.std.proofs.Math.ListN.{get_elem?}
use Rattle.scope.specs.Sizes.{most_bytes, most_locals, most_operands, most_frames}
use Rattle.scope.specs.Reading.{got}
use Rattle.scope.specs.Numbers.{u32}
use Rattle.scope.specs.Syntax.{Val, func, Definition}
use Rattle.scope.specs.Sections.{val_at}
use Rattle.scope.specs.Instructions.{Instr, block, loop, end, op, Op, instr_at}
use Rattle.scope.specs.BodyRules.{Context, Scope, Plan, from_top}
use Rattle.scope.specs.Bodies.{Operand, on_top, Frame, of_block, of_loop, State, marked, Next, goes_on, finished, Function, context_of}
use Rattle.facts_bodies.specs.Premises.{Each, ValReached, Takes, Puts}
use Rattle.facts_bodies.specs.Apart.{Sees, AllOperands, Starts}
use Rattle.facts_bodies.specs.Rules.{Rule}

-- states

-- after an instruction that goes on: what it put lies on what was left
abbrev pub passed : State → Plan → List Operand → List Operand → State
passed st p put left =
    record { frames = st.frames; operands = put ++ left; dead = st.dead; is_set = marked p.marks st.is_set }

-- after unreachable, br and return the stack yields unknowns
abbrev pub stopped : State → Plan → State
stopped st p = record { frames = st.frames; operands = []; dead = true; is_set = marked p.marks st.is_set }

-- inside a block that was opened: it starts empty, and unknowns belong to one frame
abbrev pub inside : State → Frame → State
inside st f = record { frames = f ∷ st.frames; operands = []; dead = false; is_set = st.is_set }

-- past a block's end: its results lie on the operands around it; "sets inside a block are forgotten at its end"
abbrev pub past_block : List Frame → List Val → List Operand → Bool → List Bool → State
past_block fs rs os dead is_set = record { frames = fs; operands = on_top rs ++ os; dead = dead; is_set = is_set }

-- 512 operands in all frames after an instruction
pub record Roomy (st : State) : Type 0 where
  pub few_operands : {n : ℕ} → AllOperands st n → n ≤ most_operands

-- a block can be opened: 64 frames, the function's own counted; its types are in reach. It adds no operand.
pub record Opens (c : Context) (st : State) (rs : List Val) : Type 0 where
  pub reached : Each (ValReached c.count) rs
  pub few_frames : length st.frames + 1 < most_frames

-- the operands are the results exactly: these are taken from the top, and nothing is left
pub record Results (c : Context) (st : State) (rs : List Val) : Type 0 where
  pub taken : List Operand
  pub exactly : Takes c.types st.dead (from_top rs) st.operands taken []

-- instructions

pub data TypedInstr (c : Context) (st : State) : Instr → Next → Type 0 where
  passes : {here : Scope} {o : Op} {p : Plan} {taken left put : List Operand}
      → Sees c st here
      → Rule c here o p
      → p.stops ≡ false
      → Takes c.types st.dead p.wants st.operands taken left
      → Puts c.types p.gives taken put
      → Roomy (passed st p put left)
      → TypedInstr c st (op o) (goes_on (passed st p put left))
  stops : {here : Scope} {o : Op} {p : Plan} {taken left : List Operand}
      → Sees c st here
      → Rule c here o p
      → p.stops ≡ true
      → Takes c.types st.dead p.wants st.operands taken left
      → Roomy (stopped st p)
      → TypedInstr c st (op o) (goes_on (stopped st p))
  opens_block : {rs : List Val}
      → Opens c st rs
      → TypedInstr c st (block rs) (goes_on (inside st (of_block rs st.operands st.dead st.is_set)))
  opens_loop : {rs : List Val}
      → Opens c st rs
      → TypedInstr c st (loop rs) (goes_on (inside st (of_loop rs st.operands st.dead st.is_set)))
  ends_block : {rs : List Val} {os : List Operand} {dead : Bool} {is_set : List Bool} {fs : List Frame}
      → st.frames ≡ of_block rs os dead is_set ∷ fs
      → Results c st rs
      → Roomy (past_block fs rs os dead is_set)
      → TypedInstr c st end (goes_on (past_block fs rs os dead is_set))
  ends_loop : {rs : List Val} {os : List Operand} {dead : Bool} {before : List Bool} {fs : List Frame}
      → st.frames ≡ of_loop rs os dead before ∷ fs
      → Results c st rs
      → Roomy (past_block fs rs os dead before)
      → TypedInstr c st end (goes_on (past_block fs rs os dead before))
  ends_body : st.frames ≡ [] → Results c st c.results → TypedInstr c st end finished

-- instructions up to the last `end`
pub data TypedBody (c : Context) : State → List Instr → Type 0 where
  last_end : {st : State} {i : Instr} → TypedInstr c st i finished → TypedBody c st (i ∷ [])
  goes_on_lem : {st later : State} {i : Instr} {is : List Instr} → TypedInstr c st i (goes_on later) → TypedBody c later is → TypedBody c st (i ∷ is)

-- locals

-- an entry of a locals list: so many locals of a type
pub record Entry : Type 0 where
  pub many : ℕ
  pub type : Val

-- The locals that entries stand for, over a section of `count` types: each type is in reach, and up to each entry there are
-- at most 256 locals with the parameters, where so many stand before.
pub data Locals (count : ℕ) : ℕ → List Entry → List Val → Type 0 where
  no_locals : {before : ℕ} → Locals count before [] []
  more_locals : {before : ℕ} {e : Entry} {es : List Entry} {vs : List Val}
      → ValReached count e.type
      → before + e.many ≤ most_locals
      → Locals count (before + e.many) es vs
      → Locals count before (e ∷ es) (replicate e.many e.type ++ vs)

-- bytes

-- from one byte offset to another the bytes read as these entries
pub data EntriesAt (s : List ℕ) : ℕ → List Entry → ℕ → Type 0 where
  no_entry : {at : ℕ} → EntriesAt s at [] at
  next_entry : {at type next stop : ℕ} {e : Entry} {es : List Entry}
      → u32 s at ≡ got e.many type
      → val_at s type ≡ got e.type next
      → EntriesAt s next es stop
      → EntriesAt s at (e ∷ es) stop

-- from one byte offset to another the bytes read as these instructions
pub data InstrsAt (s : List ℕ) : ℕ → List Instr → ℕ → Type 0 where
  no_instr : {at : ℕ} → InstrsAt s at [] at
  next_instr : {at next stop : ℕ} {i : Instr} {is : List Instr} → instr_at s at ≡ got i next → InstrsAt s next is stop → InstrsAt s at (i ∷ is) stop

-- the bytes are a list of these locals entries and then these instructions; nothing is left over
pub record Writing (s : List ℕ) (es : List Entry) (is : List Instr) : Type 0 where
  pub from : ℕ
  pub first : ℕ
  pub counted : u32 s 0 ≡ got (length es) from
  pub entries : EntriesAt s from es first
  pub instructions : InstrsAt s first is (length s)

-- bodies

-- x is the number of a function type with these parameters and results
pub record FunctionType (ds : List Definition) (x : ℕ) (f : Function) : Type 0 where
  pub definition : Definition
  pub present : get_elem? ds x ≡ some definition
  pub form : definition.form ≡ func f.parameters f.results

-- over the types of a section: the bytes are a body of the function type with number x, with these locals and instructions
pub record Derivation (ds : List Definition) (x : ℕ) (s : List ℕ) (f : Function) (ls : List Val) (is : List Instr) : Type 0 where
  pub small : length s ≤ most_bytes
  pub is_function : FunctionType ds x f
  pub entries : List Entry
  pub written : Writing s entries is
  pub all_locals : Locals (length ds) (length f.parameters) entries ls
  pub start : State
  pub starts : Starts f ls start
  pub typed : TypedBody (context_of ds f ls) start is

-- a derivation exists
pub record AllowedBody (ds : List Definition) (x : ℕ) (s : List ℕ) : Type 0 where
  pub function : Function
  pub locals : List Val
  pub instructions : List Instr
  pub derivation : Derivation ds x s function locals instructions
