-- What opening a block leaves in the scratch, by what its words then say.
use Rattle.std.specs.Prelude.{ℕ, ◌+◌, ◌*◌, ◌<◌, ◌≤◌, ◌≡◌, Bool, false, List, map, get_or, length, ltb}
use Rattle.scope.specs.Sizes.{most_bytes, most_locals, most_operands, most_blocks}
use Rattle.scope.specs.Refusals.{out_of_reach}
use Rattle.scope.specs.Lists.{every, joined}
use Rattle.scope.specs.TypeRules.{val_names}
use Rattle.scope.specs.Syntax.{Val}
use Rattle.scope.specs.Memory.{flag}
use Rattle.scope.specs.BodyRules.{Ruled, test}
use Rattle.scope.specs.Bodies.{State, Next, entered}
use Rattle.body_decoded.specs.Decoded.{block_results}
use Rattle.body_state.specs.declared.Check.{Check}
use Rattle.body_state.specs.declared.Scene.{Scene}
use Rattle.body_state.specs.declared.Step.{Step}
use Rattle.body_state.specs.declared.Step
use Rattle.body_state.specs.Layout.{frames_from, frame_span, loop_word, result_word, base_word, height_word, dead_word, stamp_word, used_size}
use Rattle.body_state.specs.State.{frame_word, frame_of, state_at, Upright, Stamped, step_of}

-- one more frame has its words
pub record Entering (work : List ℕ) (st : Check) : Type 0 where
  pub room : used_size ≤ length work
  pub deep : st.depth < most_blocks
  pub low : st.base + st.height ≤ most_operands

-- the new frame's words, those before them as they were, and where the check then stands
pub record Entered (work work' : List ℕ) (st : Check) (is_loop : Bool) (result at : ℕ) (r : Check) : Type 0 where
  pub is_loop' : frame_word work' (st.depth + 2) loop_word ≡ flag is_loop
  pub result' : frame_word work' (st.depth + 2) result_word ≡ result
  pub base' : frame_word work' (st.depth + 2) base_word ≡ st.base
  pub height' : frame_word work' (st.depth + 2) height_word ≡ st.height
  pub dead' : frame_word work' (st.depth + 2) dead_word ≡ flag st.dead
  pub stamp' : frame_word work' (st.depth + 2) stamp_word ≡ at
  pub below : (i : ℕ) → i < frames_from + frame_span * (st.depth + 2) → get_or work' i 0 ≡ get_or work i 0
  pub size : length work' ≡ length work
  pub check : r ≡ record { depth = st.depth + 1; base = st.base + st.height; height = 0; dead = false }

-- the sizes hold, and no stamp is the place of this instruction
pub record Opening (work : List ℕ) (count : ℕ) (st : Check) (at : ℕ) : Type 0 where
  pub upright : Upright work count st
  pub stamped : Stamped work count st.depth at
  pub early : at ≤ most_bytes

-- what document 01 says of block and loop (scope's judge_instr)
abbrev pub opens : ℕ → State → Bool → List Val → Ruled Next
opens types st is_loop rs =
    test (every (λ x. ltb x types) (joined (map val_names rs))) out_of_reach
    (entered st (frame_of is_loop rs st.operands st.dead st.is_set))

pub record Opened (work work' : List ℕ) (k : Scene) (st : Check) (is_loop : Bool) (result at : ℕ) (r : Step) : Type 0 where
  pub answer : step_of work' k.locals r ≡ opens k.types (state_at work k.locals st) is_loop (block_results result)
  pub upright : (st' : Check) → r ≡ Step.TheVariants.On st' → Upright work' k.locals st'
  pub stamped : (st' : Check) → r ≡ Step.TheVariants.On st' → Stamped work' k.locals st'.depth (at + 1)
  pub types : (i : ℕ) → i < most_locals → get_or work' i 0 ≡ get_or work i 0
  pub size : length work' ≡ length work
