-- What setting a local leaves in the scratch, by what its words then say.
use Rattle.std.specs.Prelude.{ℕ, ◌+◌, ◌<◌, ◌≤◌, ◌≡◌, List, get_or, length}
use Rattle.std.proofs.Math.Option.{Option}
use Rattle.scope.specs.Sizes.{most_locals}
use Rattle.scope.specs.Bodies.{marked}
use Rattle.body_state.specs.Layout.{stamps_from, operands_from, stamp_word, used_size}
use Rattle.body_state.specs.State.{frame_word, sets_at}

-- frame m may be open
pub record Ready (work : List ℕ) (count m : ℕ) : Type 0 where
  pub room : used_size ≤ length work
  pub few : count ≤ most_locals
  pub some' : 0 < m

-- A local is set in the frames up to number m, and in no frame around; it keeps a stamp that was there, or frame m's.
pub record Marked (work work' : List ℕ) (count m : ℕ) (marks : Option ℕ) : Type 0 where
  pub here : sets_at work' m 0 count ≡ marked marks (sets_at work m 0 count)
  pub around : (n : ℕ) → n < m → sets_at work' n 0 count ≡ sets_at work n 0 count
  pub early : (at : ℕ) → frame_word work m stamp_word < at → ((i : ℕ) → i < count → get_or work (stamps_from + i) 0 < at) → (i : ℕ) → i < count → get_or work' (stamps_from + i) 0 < at
  pub types : (i : ℕ) → i < most_locals → get_or work' i 0 ≡ get_or work i 0
  pub beyond : (i : ℕ) → operands_from ≤ i → get_or work' i 0 ≡ get_or work i 0
  pub size : length work' ≡ length work
