-- A heap type that names a type number.
use Rattle.std.specs.Prelude.{ℕ, Bool, true, false}
use Rattle.scope.specs.Syntax.{Heap, defined, exact}

-- exact x, or x
abbrev pub named : Bool → ℕ → Heap
named true x = exact x
named false x = defined x
