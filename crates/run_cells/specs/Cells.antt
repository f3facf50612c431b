-- What it is to fill cells: with copies of values, and with the defaults of fields.
use Rattle.std.specs.Prelude.{ℕ, ◌+◌, ◌*◌, ◌<◌, ◌≤◌, ◌≡◌, List, map, get_or, length}
use Rattle.scope.specs.Layout.{value_span, cells_size}
use Rattle.scope.specs.Sizes.{most_cells}
use Rattle.scope.specs.Syntax.{Val, num, ref}
use Rattle.scope.specs.BodyRules.{holds_of}
use Rattle.scope.specs.Machine.{Value, number, null}
use Rattle.type_table.specs.View.{val_at_code, field_at_code, codes_at}
use Rattle.run_values.specs.Values.{value_at, values_from, Canon, AllCanon}

-- k more cells are within the sizes
pub record CellRoom (cells : List ℕ) (total k : ℕ) : Type 0 where
  pub room : cells_size ≤ length cells
  pub few : total + k ≤ most_cells

-- k cells from `total` on say these values, and the cells below are as they were
pub record Filled (cells cells' : List ℕ) (total k : ℕ) (vs : List Value) : Type 0 where
  pub values : values_from cells' total k ≡ vs
  pub below : (i : ℕ) → i < value_span * total → get_or cells' i 0 ≡ get_or cells i 0
  pub size : length cells' ≡ length cells

pub record CellsCopied (from cells cells' : List ℕ) (at total k : ℕ) : Type 0 where
  pub filled : Filled cells cells' total k (values_from from at k)
  pub canon : AllCanon from (at + k) → AllCanon cells total → AllCanon cells' (total + k)

-- zero or null; where a type has a default it is that
abbrev pub start_of : Val → Value
start_of (num k) = number k 0
start_of (ref n h) = null

pub record DefaultKind (code r : ℕ) : Type 0 where
  pub is : value_at r 0 ≡ start_of (val_at_code code)
  pub canon : Canon r 0

pub record CellsDefault (codes cells cells' : List ℕ) (first k total : ℕ) : Type 0 where
  pub filled : Filled cells cells' total k (map start_of (holds_of (codes_at field_at_code codes first k)))
  pub canon : AllCanon cells total → AllCanon cells' (total + k)
