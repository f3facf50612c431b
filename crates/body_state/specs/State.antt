-- What the words of a body's scratch say: a total reading of them as the state of document 01's check (scope's
-- Bodies.antt). A local is set where the frame in which it was set is still open: the local keeps that frame's number and
-- stamp, and a frame that is opened later under the same number has another stamp. So leaving a block touches no local.
use Rattle.std.specs.Prelude.{ℕ, zero, suc, ◌+◌, ◌-◌, ◌*◌, ◌%◌, ◌≤◌, ◌<◌, ◌≡◌, Bool, false, cond, ◌&&◌, List, [], ◌∷◌, ◌++◌, get_or, length, eqb, ltb, leb}
use Rattle.std.proofs.Math.Option.{Option, none, some}
use Rattle.std.proofs.Math.ListN.{get_elem?}
use Rattle.scope.specs.Told.{Maybe}
use Rattle.std.specs.Prelude.{None, Some}
use Rattle.scope.specs.Sizes.{most_locals, most_operands, most_frames}
use Rattle.scope.specs.Syntax.{Val, defined, nullable}
use Rattle.scope.specs.BodyRules.{Context, Wanted, value, any_value, any_reference, values, it_non_null, its_descriptor, Plan, Ruled, allowed, fault, from_top, holds_of}
use Rattle.scope.specs.Bodies.{Operand, known, unknown, unknown_reference, Frame, of_block, of_loop, State, Next, goes_on, finished}
use Rattle.type_table.specs.View.{val_at_code, field_at_code, codes_at, link_at, view}
use Rattle.body_state.specs.declared.Check.{Check}
use Rattle.body_state.specs.declared.Scene.{Scene}
use Rattle.body_state.specs.declared.Values.{Values}
use Rattle.body_state.specs.declared.Values
use Rattle.body_state.specs.declared.Plain.{Plain}
use Rattle.body_state.specs.declared.Planned.{Planned}
use Rattle.body_state.specs.declared.Planned
use Rattle.body_state.specs.declared.Step.{Step}
use Rattle.body_state.specs.declared.Step
use Rattle.body_state.specs.Layout.{marks_from, stamps_from, operands_from, frames_from, frame_span, loop_word, result_word, base_word, height_word, dead_word, stamp_word, used_size, code_bound}

-- words

-- 0 unknown, 1 a non-null reference of unknown heap, else two more than a type's code
unfoldable pub operand_at_code : ℕ → Operand
operand_at_code c = cond (eqb c 0) unknown (cond (eqb c 1) unknown_reference (known (val_at_code (c - 2))))

-- 0 any value, 1 any reference, else two more than a type's code
unfoldable pub wanted_at_code : ℕ → Wanted
wanted_at_code c = cond (eqb c 0) any_value (cond (eqb c 1) any_reference (value (val_at_code (c - 2))))

-- a code that is too great is read by its remainder
unfoldable pub val_at_word : ℕ → Val
val_at_word w = val_at_code (w % code_bound)

-- 0 none, else one more than a type's code
unfoldable pub results_at : ℕ → List Val
results_at w = cond (eqb w 0) [] (val_at_word (w - 1) ∷ [])

-- a list of value types
unfoldable pub values_of : List ℕ → Values → List Val
values_of codes (Values.TheVariants.Types first n) = codes_at val_at_code codes first n
values_of codes (Values.TheVariants.Fields first n) = holds_of (codes_at field_at_code codes first n)
values_of codes (Values.TheVariants.One c) = val_at_word c ∷ []

-- plans

-- 0 nothing, else one more than the word of what is wanted
unfoldable pub wants_at : ℕ → List Wanted
wants_at w = cond (eqb w 0) [] (wanted_at_code (w - 1) ∷ [])

unfoldable pub plain_of : List ℕ → Plain → Plan
plain_of codes p =
    record {
      wants = wants_at p.top ++ (wants_at p.second ++ from_top (values_of codes p.rest));
      gives = values (cond p.back (values_of codes p.rest) [] ++ results_at p.gives);
      marks = link_at p.marks;
      stops = p.stops;
    }

unfoldable pub planned_of : List ℕ → Planned → Ruled Plan
planned_of codes (Planned.TheVariants.Plain p) = allowed (plain_of codes p)
planned_of codes Planned.TheVariants.NonNull =
    allowed (record { wants = any_reference ∷ []; gives = it_non_null; marks = none; stops = false })
planned_of codes (Planned.TheVariants.Descriptor x y) =
    allowed (record { wants = value (nullable (defined x)) ∷ []; gives = its_descriptor x y; marks = none; stops = false })
planned_of codes (Planned.TheVariants.Fault n) = fault n

-- word k of frame m
abbrev pub frame_word : List ℕ → ℕ → ℕ → ℕ
frame_word work m k = get_or work (frames_from + (frame_span * m + k)) 0

-- operands

-- so many operands above the lowest `base`, the top first
unfoldable pub stack : List ℕ → ℕ → ℕ → List Operand
stack work base zero = []
stack work base (suc h) = operand_at_code (get_or work (operands_from + (base + h)) 0) ∷ stack work base h

-- locals

-- whether local i was set in one of the frames up to number m
unfoldable pub is_set_at : List ℕ → ℕ → ℕ → Bool
is_set_at work m i =
    let n = get_or work (marks_from + i) 0 in ltb 0 n && (leb n m && eqb (frame_word work n stamp_word) (get_or work (stamps_from + i) 0))

-- of so many locals from i on
unfoldable pub sets_at : List ℕ → ℕ → ℕ → ℕ → List Bool
sets_at work m i zero = []
sets_at work m i (suc n) = is_set_at work m i ∷ sets_at work m (i + 1) n

-- frames

abbrev pub frame_of : Bool → List Val → List Operand → Bool → List Bool → Frame
frame_of is_loop rs os dead is_set = cond is_loop (of_loop rs os dead is_set) (of_block rs os dead is_set)

-- frame m, which stands in frame m - 1
unfoldable pub frame_at : List ℕ → ℕ → ℕ → Frame
frame_at work count m =
    frame_of
    (eqb (frame_word work m loop_word) 1)
    (results_at (frame_word work m result_word))
    (stack work (frame_word work m base_word) (frame_word work m height_word))
    (eqb (frame_word work m dead_word) 1)
    (sets_at work (m - 1) 0 count)

-- the open blocks, innermost first: the outermost is frame 2
unfoldable pub frames_at : List ℕ → ℕ → ℕ → List Frame
frames_at work count zero = []
frames_at work count (suc d) = frame_at work count (d + 2) ∷ frames_at work count d

-- the whole

unfoldable pub state_at : List ℕ → ℕ → Check → State
state_at work count st =
    record {
      frames = frames_at work count st.depth;
      operands = stack work st.base st.height;
      dead = st.dead;
      is_set = sets_at work (st.depth + 1) 0 count;
    }

unfoldable pub context_at : List ℕ → List ℕ → List ℕ → Scene → Context
context_at rows codes work k =
    record {
      types = view rows codes;
      count = k.types;
      locals = codes_at val_at_word work 0 k.locals;
      results = codes_at val_at_code codes k.first k.results;
    }

-- what holds of the words between two instructions

-- Frame by frame, the operands below a frame are those of the frames around it: `base` of them below frame d + 1.
pub data Rests (work : List ℕ) : ℕ → ℕ → Type 0 where
  floor : Rests work 0 0
  above : {d base : ℕ} → Rests work d (frame_word work (d + 2) base_word) → base ≡ frame_word work (d + 2) base_word + frame_word work (d + 2) height_word → Rests work (suc d) base

-- the sizes hold
pub record Upright (work : List ℕ) (count : ℕ) (st : Check) : Type 0 where
  pub room : used_size ≤ length work
  pub few : count ≤ most_locals
  pub deep : st.depth < most_frames
  pub low : st.base + st.height ≤ most_operands
  pub rests : Rests work st.depth st.base

-- Every stamp is the place of an instruction that was read before: it lies below `at`.
pub record Stamped (work : List ℕ) (count depth at : ℕ) : Type 0 where
  pub locals : (i : ℕ) → i < count → get_or work (stamps_from + i) 0 < at
  pub frames : (m : ℕ) → m ≤ depth + 1 → frame_word work m stamp_word < at

-- what comes of an instruction

abbrev pub step_of : List ℕ → ℕ → Step → Ruled Next
step_of work count (Step.TheVariants.On st) = allowed (goes_on (state_at work count st))
step_of work count Step.TheVariants.Finished = allowed finished
step_of work count (Step.TheVariants.Fault n) = fault n

-- The answer is `want`; the sizes hold as before, no stamp is new, and the locals' types stand as they stood.
pub record Stepped (work work' : List ℕ) (count depth : ℕ) (want : Ruled Next) (r : Step) : Type 0 where
  pub answer : step_of work' count r ≡ want
  pub upright : (st : Check) → r ≡ Step.TheVariants.On st → Upright work' count st
  pub stamped : (st : Check) → r ≡ Step.TheVariants.On st → (at : ℕ) → Stamped work count depth at → Stamped work' count st.depth at
  pub types : (i : ℕ) → i < most_locals → get_or work' i 0 ≡ get_or work i 0
  pub size : length work' ≡ length work

-- what the questions answer

abbrev pub local_option : Maybe ℕ → Option Val
local_option None = none
local_option (Some c) = some (val_at_code c)

pub record LocalOf (work : List ℕ) (count x : ℕ) (r : Maybe ℕ) : Type 0 where
  pub is : local_option r ≡ get_elem? (codes_at val_at_word work 0 count) x
  pub small : (c : ℕ) → r ≡ Some c → c < code_bound

pub record LengthOf (values : Values) (r : ℕ) : Type 0 where
  pub is : (codes : List ℕ) → length (values_of codes values) ≡ r

pub record CodeOf (codes : List ℕ) (values : Values) (i r : ℕ) : Type 0 where
  pub is : i < length (values_of codes values) → get_elem? (values_of codes values) i ≡ some (val_at_code r)
  pub small : r < code_bound

pub record ResultsOf (work : List ℕ) (m : ℕ) (r : Values) : Type 0 where
  pub is : (codes : List ℕ) → values_of codes r ≡ results_at (frame_word work m result_word)
