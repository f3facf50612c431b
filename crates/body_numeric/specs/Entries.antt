-- What the table of numeric instructions holds of a byte, and what is answered of it. A number type's code is that of the
-- table of types: 0 i32, 1 i64, 2 f32, 3 f64.
use Rattle.std.specs.Prelude.{ℕ, zero, suc, ◌+◌, ◌*◌, ◌≡◌, Bool, not, List, [], ◌∷◌}
use Rattle.std.proofs.Math.Option.{Option, none, some}
use Rattle.scope.specs.Lists.{is_none}
use Rattle.scope.specs.Order.{number_code}
use Rattle.scope.specs.Numeric.{Numeric, numeric_of}
use Rattle.body_numeric.specs.declared.NumericRow.{NumericRow}

-- an entry's pairs of binary digits: how many operands, their type, the result's type
unfoldable pub entry_of : Option Numeric → ℕ
entry_of none = 0
entry_of (some n) = 16 * n.operands + 4 * number_code n.kind + number_code n.result

unfoldable pub coded : Option Numeric → NumericRow
coded none = record { operands = 0; kind = 0; result = 0 }
coded (some n) = record { operands = n.operands; kind = number_code n.kind; result = number_code n.result }

-- whether a byte is a numeric code: it lies in one of the ranges
unfoldable pub is_numeric : ℕ → Bool
is_numeric b = not (is_none (numeric_of b))

-- what f gives at so many numbers from i on
abbrev pub numbered : {A : Type 0} → (ℕ → A) → ℕ → ℕ → List A
numbered f i zero = []
numbered f i (suc n) = f i ∷ numbered f (suc i) n

-- the table: an entry for each first byte
pub record Tabled (table : List ℕ) : Type 0 where
  pub is : table ≡ numbered (λ b. entry_of (numeric_of b)) 0 256
