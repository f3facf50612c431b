-- What the end of a frame answers and leaves, by document 01's rules over what the words say.
use Rattle.std.specs.Prelude.{ℕ, ◌+◌, ◌-◌, ◌<◌, ◌≡◌, Bool, List, ◌++◌, eqb}
use Rattle.scope.specs.Syntax.{Val}
use Rattle.scope.specs.BodyRules.{Ruled, fault, and_ruled, from_top}
use Rattle.scope.specs.Bodies.{on_top, take_all, none_left, Next, within_operands}
use Rattle.type_table.specs.View.{view}
use Rattle.body_state.specs.declared.Check.{Check}
use Rattle.body_state.specs.declared.Values.{Values}
use Rattle.body_state.specs.Layout.{base_word, height_word, dead_word}
use Rattle.body_state.specs.State.{values_of, frame_word, stack, sets_at, frames_at, Upright}
use Rattle.body_end.specs.declared.End.{End}
use Rattle.body_end.specs.declared.End

-- what comes next where the frame may end, else the refusal's number
abbrev pub end_fault : {A : Type 0} → End → Ruled A → Ruled A
end_fault End.TheVariants.Fine more = more
end_fault (End.TheVariants.Fault n) more = fault n

pub record EndsWith (rows codes work : List ℕ) (list : Values) (base height : ℕ) (dead : Bool) (r : End) : Type 0 where
  pub is : (more : Ruled Next) → end_fault r more ≡ and_ruled (take_all (view rows codes) dead (from_top (values_of codes list)) (stack work base height)) (λ t. none_left t.left more)

-- frame m is the innermost, and it is not the function's own
pub record Inner (work : List ℕ) (count : ℕ) (st : Check) (m : ℕ) : Type 0 where
  pub upright : Upright work count st
  pub open' : 0 < st.depth
  pub number : m ≡ st.depth + 1

-- the state in the frame around, with the results as operands
unfoldable pub stepped_out : List ℕ → ℕ → ℕ → List Val → Ruled Next
stepped_out work count depth rs =
    within_operands
    (record {
      frames = frames_at work count (depth - 1);
      operands = on_top rs ++ stack work (frame_word work (depth + 1) base_word) (frame_word work (depth + 1) height_word);
      dead = eqb (frame_word work (depth + 1) dead_word) 1;
      is_set = sets_at work depth 0 count;
    })
