-- What the no to a body says. "A body: section, body size, 27, the locals entry by entry (bytes, 6, 4), then the first faulty
-- instruction: immediates, 6, 21, 23, 24, 25, 29, 22, operands from the top (20), 28, 4; last, 5." Where 20 stands, 31 of
-- request 9 of document 02 stands too: the first operand at fault, from the top, decides. The conditions are the premises of
-- the rules of facts_bodies; an instruction that keeps all of its own is derivable.
use Rattle.std.specs.Prelude.{ℕ, suc, ◌+◌, ◌≤◌, ◌<◌, ◌≡◌, ◌↔◌, Bool, true, false, List, [], ◌∷◌, ◌++◌, map, length}
use Rattle.scope.specs.Sizes.{most_bytes, most_frames, most_locals}
use Rattle.scope.specs.Refusals.{bad_operand, only_null, values_left, oversize, out_of_reach, not_a_function, left_over}
use Rattle.scope.specs.Reading.{got, refused}
use Rattle.scope.specs.Numbers.{u32}
use Rattle.scope.specs.Syntax.{Heap, Val, nullable, non_null, Definition, Types}
use Rattle.scope.specs.Order.{ValOrder, val_below}
use Rattle.scope.specs.Sections.{val_at}
use Rattle.scope.specs.declared.Place.{Place}
use Rattle.scope.specs.Judging.{plain, rejected, Joined}
use Rattle.scope.specs.Instructions.{Op, Instr, block, loop, end, op, instr_at}
use Rattle.scope.specs.BodyRules.{Context, Wanted, Plan, fault, from_top}
use Rattle.scope.specs.Bodies.{Operand, known, Frame, of_block, of_loop, State, scope_of, goes_on, judge_instr, Function, start_state, context_of, judge_body}
use Rattle.facts_sections.specs.Allowed.{Allowed}
use Rattle.facts_sections.specs.FirstFault.{FirstBroken, Refused}
use Rattle.facts_sections.specs.FirstFault as rules
use Rattle.facts_bodies.specs.Premises.{Each, ValReached, Meets, Takes, Puts}
use Rattle.facts_bodies.specs.Rules.{Rule}
use Rattle.facts_bodies.specs.Typing.{passed, stopped, past_block, Roomy, Results, TypedInstr, TypedBody, Entry, Locals, EntriesAt, InstrsAt, FunctionType}
use Rattle.facts_refusals.specs.Numbers.{ByteFault, InstructionFault, EntryNumber}
use Rattle.facts_refusals.specs.Sections.{SaysNo}
use Rattle.facts_refusals.specs.Instructions.{number_of, asks, rising, asked_rules}

-- 31, request 9 of document 02: "would fit if it couldn't be null". A nullable reference does not meet what is wanted, and the
-- non-null one does.
pub data ButForNull (ts : Types) : Operand → Wanted → Type 0 where
  but_for_null_lem : {h : Heap} {w : Wanted} → ¬ Meets ts (known (nullable h)) w → Meets ts (known (non_null h)) w → ButForNull ts (known (nullable h)) w

-- from the top, the first operand that does not meet what is wanted is such a one
pub data NullFirst (ts : Types) : List Wanted → List Operand → Type 0 where
  null_here : {w : Wanted} {ws : List Wanted} {o : Operand} {os : List Operand} → ButForNull ts o w → NullFirst ts (w ∷ ws) (o ∷ os)
  null_below_lem : {w : Wanted} {ws : List Wanted} {o : Operand} {os : List Operand} → Meets ts o w → NullFirst ts ws os → NullFirst ts (w ∷ ws) (o ∷ os)

-- at an `end`, and of an instruction that its rule allows
pub record NoNullAtEnd (c : Context) (st : State) (vs : List Val) : Type 0 where
  pub other : ¬ NullFirst c.types (from_top vs) st.operands

pub record NoNull (c : Context) (st : State) (o : Op) : Type 0 where
  pub other : {p : Plan} → Rule c (scope_of c st) o p → ¬ NullFirst c.types p.wants st.operands

-- 20: operand missing or wrong. What is wanted, the top first, can be taken.
pub data CanTake (c : Context) (st : State) (vs : List Val) : Type 0 where
  can_take : {taken left : List Operand} → Takes c.types st.dead (from_top vs) st.operands taken left → CanTake c st vs

pub data OperandsThere (c : Context) (st : State) (p : Plan) : Type 0 where
  operands_there : {taken left : List Operand} → Takes c.types st.dead p.wants st.operands taken left → OperandsThere c st p

-- the operands of an instruction that its rule allows
pub record Operands (c : Context) (st : State) (o : Op) : Type 0 where
  pub there : {p : Plan} → Rule c (scope_of c st) o p → OperandsThere c st p

-- 4: "512 operands in all frames after an instruction"
pub record Room (c : Context) (st : State) (o : Op) : Type 0 where
  pub going_on : {p : Plan} {taken left put : List Operand} → Rule c (scope_of c st) o p → p.stops ≡ false
      → Takes c.types st.dead p.wants st.operands taken left → Puts c.types p.gives taken put → Roomy (passed st p put left)
  pub stopping : {p : Plan} {taken left : List Operand} → Rule c (scope_of c st) o p → p.stops ≡ true
      → Takes c.types st.dead p.wants st.operands taken left → Roomy (stopped st p)

-- what the innermost frame gives at its `end`
abbrev pub results_of : Context → List Frame → List Val
results_of c [] = c.results
results_of c (of_block rs os dead is_set ∷ fs) = rs
results_of c (of_loop rs os dead is_set ∷ fs) = rs

-- 4 at an `end`: the function's own leaves nothing behind it
pub data RoomPast : List Frame → Type 0 where
  past_body : RoomPast []
  past_block_lem : {rs : List Val} {os : List Operand} {dead : Bool} {is_set : List Bool} {fs : List Frame} → Roomy (past_block fs rs os dead is_set) → RoomPast (of_block rs os dead is_set ∷ fs)
  past_loop : {rs : List Val} {os : List Operand} {dead : Bool} {is_set : List Bool} {fs : List Frame} → Roomy (past_block fs rs os dead is_set) → RoomPast (of_loop rs os dead is_set ∷ fs)

-- the conditions of an instruction, in document 01's order

-- 6, then "64 frames, the function's own counted" (4)
abbrev pub open_rules : Context → State → List Val → List rules.Rule
open_rules c st rs =
    record { says = Each (ValReached c.count) rs; number = out_of_reach }
    ∷ record { says = length st.frames + 1 < most_frames; number = oversize }
    ∷ []

-- 31 or 20, 28, 4
abbrev pub end_rules : Context → State → List rules.Rule
end_rules c st =
    record { says = NoNullAtEnd c st (results_of c st.frames); number = only_null }
    ∷ record { says = CanTake c st (results_of c st.frames); number = bad_operand }
    ∷ record { says = Results c st (results_of c st.frames); number = values_left }
    ∷ record { says = RoomPast st.frames; number = oversize }
    ∷ []

abbrev pub conditions : Context → State → Instr → List rules.Rule
conditions c st (block rs) = open_rules c st rs
conditions c st (loop rs) = open_rules c st rs
conditions c st end = end_rules c st
conditions c st (op o) =
    asked_rules c (scope_of c st) o
    ++ record { says = NoNull c st o; number = only_null }
    ∷ record { says = Operands c st o; number = bad_operand }
    ∷ record { says = Room c st o; number = oversize }
    ∷ []

-- the first faulty instruction

-- instructions that are derivable one after the other, none of them the last `end`
pub data TypedUpTo (c : Context) : State → List Instr → State → Type 0 where
  none_yet : {st : State} → TypedUpTo c st [] st
  then_next : {st later stop : State} {i : Instr} {is : List Instr} → TypedInstr c st i (goes_on later) → TypedUpTo c later is stop → TypedUpTo c st (i ∷ is) stop

-- an instruction begins at this place, and it is at fault: its bytes, or the first of its conditions that fails, at its
-- first byte
pub data FaultAt (c : Context) (st : State) (s : List ℕ) (at : ℕ) : ℕ → ℕ → Type 1 where
  in_bytes : {number place : ℕ} → instr_at s at ≡ refused number place → FaultAt c st s at number place
  in_instruction : {number next : ℕ} {i : Instr} → instr_at s at ≡ got i next → FirstBroken (conditions c st i) number → FaultAt c st s at number at

-- from the place `first` on: all instructions before it are derivable, and this one is at fault
pub record FirstFaulty (c : Context) (start : State) (s : List ℕ) (first number place : ℕ) : Type 1 where
  pub before : List Instr
  pub at : ℕ
  pub state : State
  pub reads : InstrsAt s first before at
  pub derivable : TypedUpTo c start before state
  pub faulty : FaultAt c state s at number place

-- the first faulty locals entry

-- An entry that begins at this place, where so many locals stand before: "the locals entry by entry (bytes, 6, 4)", the last
-- two at its first byte.
pub data EntryFault (count : ℕ) (s : List ℕ) (at before : ℕ) : ℕ → ℕ → Type 0 where
  count_bytes : {number place : ℕ} → u32 s at ≡ refused number place → EntryFault count s at before number place
  type_bytes : {number place many type : ℕ} → u32 s at ≡ got many type → val_at s type ≡ refused number place → EntryFault count s at before number place
  type_unreached : {many type next : ℕ} {v : Val} → u32 s at ≡ got many type → val_at s type ≡ got v next
      → ¬ ValReached count v → EntryFault count s at before out_of_reach at
  too_many : {many type next : ℕ} {v : Val} → u32 s at ≡ got many type → val_at s type ≡ got v next
      → ValReached count v → most_locals < before + many → EntryFault count s at before oversize at

-- of n entries from the place `from` on, where so many locals stand before: those before it stand for locals, this one is at
-- fault
pub data FaultyEntry (count : ℕ) (s : List ℕ) : ℕ → ℕ → ℕ → ℕ → ℕ → Type 0 where
  this_entry : {n from before number place : ℕ} → EntryFault count s from before number place → FaultyEntry count s (suc n) from before number place
  later_entry : {n from before type next number place : ℕ} {e : Entry} → u32 s from ≡ got e.many type → val_at s type ≡ got e.type next
      → ValReached count e.type → before + e.many ≤ most_locals → FaultyEntry count s n next (before + e.many) number place
      → FaultyEntry count s (suc n) from before number place

-- the whole body

-- the sections are allowed, the body's size too, and x is the number of a function type of the joined list
pub record Begins (library section s : List ℕ) (x : ℕ) (ds : List Definition) (f : Function) : Type 0 where
  pub before : ℕ
  pub allowed : Allowed library section (record { before = before; types = ds })
  pub small : length s ≤ most_bytes
  pub is_function : FunctionType ds x f

-- and the locals are there: the instructions begin at this place
pub record LocalsStand (s : List ℕ) (ds : List Definition) (f : Function) (ls : List Val) (first : ℕ) : Type 0 where
  pub entries : List Entry
  pub from : ℕ
  pub counted : u32 s 0 ≡ got (length entries) from
  pub reads : EntriesAt s from entries first
  pub locals : Locals (length ds) (length f.parameters) entries ls

pub data BodySaysNo (library section s : List ℕ) (x : ℕ) : ℕ → Place → Type 1 where
  -- "section,
  by_section : {number : ℕ} {place : Place} → Refused library section number place → BodySaysNo library section s x number place
  -- body size,
  by_size : {j : Joined} → Allowed library section j → most_bytes < length s → BodySaysNo library section s x oversize (plain 0)
  -- 27,
  by_type : {j : Joined} → Allowed library section j → length s ≤ most_bytes → ((f : Function) → ¬ FunctionType j.types x f)
      → BodySaysNo library section s x not_a_function (plain 0)
  -- the locals entry by entry (bytes, 6, 4),
  by_count : {ds : List Definition} {f : Function} {number place : ℕ} → Begins library section s x ds f → u32 s 0 ≡ refused number place
      → BodySaysNo library section s x number (plain place)
  by_locals : {ds : List Definition} {f : Function} {n from number place : ℕ} → Begins library section s x ds f → u32 s 0 ≡ got n from
      → FaultyEntry (length ds) s n from (length f.parameters) number place → BodySaysNo library section s x number (plain place)
  -- then the first faulty instruction;
  by_instruction : {ds : List Definition} {f : Function} {ls : List Val} {first number place : ℕ} → Begins library section s x ds f
      → LocalsStand s ds f ls first → FirstFaulty (context_of ds f ls) (start_state f ls) s first number place → BodySaysNo library section s x number (plain place)
  -- last, 5"
  by_rest : {ds : List Definition} {f : Function} {ls : List Val} {is : List Instr} {first stop : ℕ} → Begins library section s x ds f
      → LocalsStand s ds f ls first → InstrsAt s first is stop → TypedBody (context_of ds f ls) (start_state f ls) is → ¬ (stop ≡ length s)
      → BodySaysNo library section s x left_over (plain stop)

-- the order's relation and its test say the same of these types, as they do of an accepted section's
pub record Ordered (ts : Types) : Type 0 where
  pub tested : (v w : Val) → ValOrder ts v w → val_below ts v w ≡ true

-- numbers and places

-- Which numbers, and at which places: those of the sections; 4 and 27 at 0; byte faults inside the body or at its length; 6 and 4
-- at a locals entry's first byte; an instruction's at the first byte of an instruction of the body.
pub data BodyPlace (library section s : List ℕ) (x : ℕ) : ℕ → Place → Type 1 where
  of_section : {number : ℕ} {place : Place} → SaysNo library section number place → BodyPlace library section s x number place
  of_whole_size : BodyPlace library section s x oversize (plain 0)
  of_type_number : BodyPlace library section s x not_a_function (plain 0)
  of_bytes : {number place : ℕ} → ByteFault number → place ≤ length s → BodyPlace library section s x number (plain place)
  of_entry : {number place : ℕ} → EntryNumber number → place ≤ length s → BodyPlace library section s x number (plain place)
  of_instruction : {number place next : ℕ} {i : Instr} → InstructionFault number → instr_at s place ≡ got i next → BodyPlace library section s x number (plain place)

pub record BodyRefusals : Type 1 where
  -- the no to a body, both ways
  pub exactly : (library section s : List ℕ) (x number : ℕ) (place : Place) → (judge_body library section s x ≡ rejected number place) ↔ BodySaysNo library section s x number place
  -- within the instruction the number is the first whose condition fails, over any types whose order is decided by its test
  pub first : (c : Context) (st : State) → Ordered c.types → (i : Instr) (number : ℕ) → (judge_instr c st i ≡ fault number) ↔ FirstBroken (conditions c st i) number
  -- the questions of each instruction stand in document 01's order
  pub in_order : (o : Op) → rising (map number_of (asks o)) ≡ true
  pub places : (library section s : List ℕ) (x number : ℕ) (place : Place) → judge_body library section s x ≡ rejected number place → BodyPlace library section s x number place
