-- What putting operands on the scratch's stack needs, and what it leaves, by document 01's rules over what the words say.
use Rattle.std.specs.Prelude.{ℕ, ◌+◌, ◌<◌, ◌≤◌, ◌≡◌, List, ◌++◌, length, get_or}
use Rattle.scope.specs.Sizes.{most_operands}
use Rattle.scope.specs.Bodies.{Operand}
use Rattle.body_state.specs.Layout.{operands_from, frames_from, used_size}
use Rattle.body_state.specs.State.{stack}

-- n more operands are within the sizes
pub record Room (work : List ℕ) (base height n : ℕ) : Type 0 where
  pub room : used_size ≤ length work
  pub few : base + height + n ≤ most_operands

-- The operands stand on top of the others, and no word is changed but where operands above those may stand.
pub record Pushed (work work' : List ℕ) (base height height' : ℕ) (os : List Operand) : Type 0 where
  pub top : stack work' base height' ≡ os ++ stack work base height
  pub below : (i : ℕ) → i < operands_from + (base + height) → get_or work' i 0 ≡ get_or work i 0
  pub beyond : (i : ℕ) → frames_from ≤ i → get_or work' i 0 ≡ get_or work i 0
  pub size : length work' ≡ length work
