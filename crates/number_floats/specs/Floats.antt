-- What the readers of floats answer, by scope's definitions.
use Rattle.std.specs.Prelude.{ℕ, ◌<◌, ◌≤◌, ◌≡◌}
use Rattle.std.specs.Prelude.{Result, Ok}
use Rattle.scope.specs.declared.Refused.{Refused}
use Rattle.scope.specs.Reading.{Read}
use Rattle.number_values.specs.Values.{natural_is}

-- so many bytes of a float, whose bits fit a word
pub record FloatLength (n : ℕ) : Type 0 where
  pub some : 1 ≤ n
  pub fit : n ≤ 8

-- the bits of a float, as the definition reads them, and that they lie below a limit
pub record FloatRead (limit : ℕ) (o : Read ℕ) (r : Result (ℕ × ℕ) Refused) : Type 0 where
  pub is : r ≡ natural_is o
  pub small : (v next : ℕ) → r ≡ Ok (v, next) → v < limit
