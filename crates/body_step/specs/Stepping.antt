-- What one instruction of a body comes to, by document 01's rules over what the words say.
use Rattle.std.specs.Prelude.{ℕ, ◌+◌, ◌<◌, ◌≡◌, List, get_or, length}
use Rattle.scope.specs.Sizes.{most_locals}
use Rattle.scope.specs.BodyRules.{Ruled}
use Rattle.scope.specs.Bodies.{Next}
use Rattle.body_numeric.specs.Entries.{Tabled}
use Rattle.body_state.specs.declared.Check.{Check}
use Rattle.body_state.specs.declared.Step.{Step}
use Rattle.body_state.specs.declared.Step
use Rattle.body_state.specs.State.{Upright, Stamped, step_of}
use Rattle.body_frames.specs.Frames.{Opening}

-- where the check stands before an instruction at the place `at`, with the table of numeric codes at hand
pub record Standing (table work : List ℕ) (count : ℕ) (st : Check) (at : ℕ) : Type 0 where
  pub tabled : Tabled table
  pub opening : Opening work count st at

-- the answer, and what the next instruction needs: it stands after the place `at`
pub record SteppedAt (work work' : List ℕ) (count at : ℕ) (want : Ruled Next) (r : Step) : Type 0 where
  pub answer : step_of work' count r ≡ want
  pub upright : (st : Check) → r ≡ Step.TheVariants.On st → Upright work' count st
  pub stamped : (st : Check) → r ≡ Step.TheVariants.On st → Stamped work' count st.depth (at + 1)
  pub types : (i : ℕ) → i < most_locals → get_or work' i 0 ≡ get_or work i 0
  pub size : length work' ≡ length work
