-- What reading a word of the scratch tells.
use Rattle.std.specs.Prelude.{ℕ, ◌<◌, ◌≡◌, List, get_or}

-- the first number that a word cannot hold
abbrev pub word32_limit : ℕ
word32_limit = 4_294_967_296

-- r is the word at a place, 0 past the end
pub record Word32At (m : List ℕ) (at r : ℕ) : Type 0 where
  pub is : r ≡ get_or m at 0
  pub small : r < word32_limit
