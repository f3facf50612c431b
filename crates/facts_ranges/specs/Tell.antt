-- What the range of a type tells, of types that are allowed: x is y or below it exactly where start y ≤ start x < end y. Steps are those
-- of document 01's chain: each from a type to its supertype.
use Rattle.std.specs.Prelude.{ℕ, ◌+◌, ◌≤◌, ◌<◌, List, length}
use Rattle.scope.specs.Syntax.{Definition, types_of}
use Rattle.scope.specs.Memory.{starts_of, ends_of}
use Rattle.facts_types.specs.Chains.{Steps}

pub record RangesTell (ds : List Definition) : Type 0 where
  -- what is below y starts in its range, and so does y itself
  pub below : {x y m : ℕ} → x < length ds → Steps (types_of ds) m x y → (starts_of ds y ≤ starts_of ds x) × (starts_of ds x < ends_of ds y)
  -- and nothing else does
  pub nothing_else : (x y : ℕ) → x < length ds → y < length ds → starts_of ds y ≤ starts_of ds x → starts_of ds x < ends_of ds y → (m : ℕ) × Steps (types_of ds) m x y
  -- 0 is no type's place, so a row of zero is in no range
  pub some : (x : ℕ) → x < length ds → 0 < starts_of ds x
