-- Pieces of which the bytes of examples are made.
use Rattle.std.specs.Prelude.{ℕ, List, replicate}
use Rattle.scope.specs.Lists.{joined}

-- the same bytes so many times
abbrev pub times : ℕ → List ℕ → List ℕ
times n piece = joined (replicate n piece)
