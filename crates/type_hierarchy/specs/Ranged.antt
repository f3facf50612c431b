-- The ranges that the rows of the table name: what is below a type are the types that start in its range.
use Rattle.std.specs.Prelude.{ℕ, ◌≡◌, Bool, ◌&&◌, ◌||◌, not, List, eqb, ltb}
use Rattle.scope.specs.Sizes.{most_steps}
use Rattle.scope.specs.Order.{climbs}
use Rattle.type_table.specs.View.{view}
use Rattle.type_span.specs.Span.{start_at, end_at}

-- x is y, or starts in the range of y
unfoldable pub within : List ℕ → ℕ → ℕ → Bool
within rows x y = eqb x y || (not (ltb (start_at rows x) (start_at rows y)) && ltb (start_at rows x) (end_at rows y))

-- of any two numbers the ranges say what the climb says
pub record Ranged (rows codes : List ℕ) : Type 0 where
  pub is : (x y : ℕ) → within rows x y ≡ climbs most_steps (view rows codes) x y
