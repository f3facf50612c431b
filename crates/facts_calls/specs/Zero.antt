-- What "zero" and "zero beyond" mean of lent memory, word by word and with none of scope's helpers.
use Rattle.std.specs.Prelude.{ℕ, ◌≤◌, ◌<◌, ◌≡◌, List, length}
use Rattle.std.proofs.Math.Option.{some}
use Rattle.std.proofs.Math.ListN.{get_elem?}

-- the same length as before, and every word is 0
pub record Zero (before after : List ℕ) : Type 0 where
  pub same_length : length after ≡ length before
  pub zero : (k : ℕ) → k < length after → get_elem? after k ≡ some 0

-- the words, and every word beyond them is 0
pub record Holds (words after : List ℕ) : Type 0 where
  pub these : (k : ℕ) → k < length words → get_elem? after k ≡ get_elem? words k
  pub beyond : (k : ℕ) → length words ≤ k → k < length after → get_elem? after k ≡ some 0

-- and the same length as before
pub record ZeroBeyond (words before after : List ℕ) : Type 0 where
  pub holds : Holds words after
  pub same_length : length after ≡ length before
