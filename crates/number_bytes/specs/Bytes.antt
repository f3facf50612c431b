-- What the reader of a byte answers.
use Rattle.std.specs.Prelude.{ℕ, ◌<◌, ◌≡◌, List, length}
use Rattle.std.proofs.Math.Option.{Option, none, some}
use Rattle.std.proofs.Math.ListN.{get_elem?}
use Rattle.scope.specs.Told.{Maybe}
use Rattle.std.specs.Prelude.{None, Some}

abbrev pub byte_is : Option ℕ → Maybe ℕ
byte_is none = None
byte_is (some b) = Some b

-- the first number that is no byte
abbrev pub byte_limit : ℕ
byte_limit = 256

pub record ByteAt (s : List ℕ) (at : ℕ) (r : Maybe ℕ) : Type 0 where
  pub is : r ≡ byte_is (get_elem? s at)
  pub small : (b : ℕ) → r ≡ Some b → (b < byte_limit) × (at < length s)
