-- What reading a word of lent memory tells.
use Rattle.std.specs.Prelude.{ℕ, ◌<◌, ◌≡◌, List, get_or}

-- the first number that a word cannot hold
abbrev pub word_limit : ℕ
word_limit = 65_536

-- r is the word at a place, 0 past the end
pub record WordAt (m : List ℕ) (at r : ℕ) : Type 0 where
  pub is : r ≡ get_or m at 0
  pub small : r < word_limit
