-- Depths of types, in the end words of their rows while the ranges are not put: how many supertypes are above a type.
use Rattle.std.specs.Prelude.{ℕ, ◌+◌, ◌*◌, ◌≤◌, ◌<◌, ◌≡◌, Bool, not, cond, List, ltb, length}
use Rattle.std.proofs.Math.Option.{some}
use Rattle.scope.specs.Sizes.{most_types}
use Rattle.scope.specs.Layout.{row_span}
use Rattle.scope.specs.Reading.{given}
use Rattle.scope.specs.Syntax.{Types, super_of}
use Rattle.scope.specs.TypeRules.{short_chain}
use Rattle.lent_u16.specs.Words.{word_limit}
use Rattle.type_table.specs.View.{view}
use Rattle.type_span.specs.Span.{end_at, Beside}

-- the end word of a type is at most so many steps
abbrev pub shallow : ℕ → List ℕ → ℕ → Bool
shallow steps rows x = not (ltb steps (end_at rows x))

-- each type up to x has an earlier supertype, if it has one
pub record Upward (types : Types) (x : ℕ) : Type 0 where
  pub each : (y p : ℕ) → y ≤ x → super_of (types y) ≡ some p → p < y

-- of n types: where the supertypes are earlier, the end word says which chains are short
pub record Depths (n : ℕ) (codes rows : List ℕ) : Type 0 where
  pub deep : (x : ℕ) → x < n → Upward (view rows codes) x → (steps : ℕ) → short_chain steps (view rows codes) x ≡ shallow steps rows x

-- one more than the supertype's
abbrev pub depth_from : Types → List ℕ → ℕ → ℕ
depth_from types rows x = given (super_of (types x)) 0 (λ p. cond (ltb p x) (end_at rows p + 1) 0)

pub record DepthAt (types : Types) (rows : List ℕ) (x r : ℕ) : Type 0 where
  pub is : r ≡ depth_from types rows x
  pub small : r ≤ word_limit

pub record Measurable (n : ℕ) (rows : List ℕ) : Type 0 where
  pub room : row_span * n ≤ length rows
  pub count : n ≤ most_types

pub record Measured (n : ℕ) (codes rows rows' : List ℕ) : Type 0 where
  pub beside : Beside n rows rows'
  pub depths : Depths n codes rows'
