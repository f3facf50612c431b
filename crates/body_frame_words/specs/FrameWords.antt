-- What writing three words of a frame leaves in the scratch.
use Rattle.std.specs.Prelude.{ℕ, ◌+◌, ◌*◌, ◌≤◌, ◌≡◌, List, get_or, length}
use Rattle.body_state.specs.Layout.{frames_from, frame_span}
use Rattle.body_state.specs.State.{frame_word}

-- frame m has its eight words
pub record FrameRoom (work : List ℕ) (m : ℕ) : Type 0 where
  pub room : frames_from + frame_span * m + frame_span ≤ length work

-- three words of frame m, and no other word is changed
pub record ThreePut (work work' : List ℕ) (m j k l x y z : ℕ) : Type 0 where
  pub first : frame_word work' m j ≡ x
  pub second : frame_word work' m k ≡ y
  pub third : frame_word work' m l ≡ z
  pub others : (i : ℕ) → (i ≡ frames_from + (frame_span * m + j) → ⊥) → (i ≡ frames_from + (frame_span * m + k) → ⊥) → (i ≡ frames_from + (frame_span * m + l) → ⊥) → get_or work' i 0 ≡ get_or work i 0
  pub size : length work' ≡ length work
