-- What the questions asked of the tables of abstract heap types answer. A number is read as an abstract type by its row
-- in document 01's table; abstract_code of scope's Memory.antt is the way back.
use Rattle.std.specs.Prelude.{ℕ, ◌<◌, ◌≡◌, get_or}
use Rattle.std.proofs.Math.Option.{Option, none, some}
use Rattle.scope.specs.Told.{Maybe}
use Rattle.std.specs.Prelude.{None, Some}
use Rattle.scope.specs.Abstract.{Abstract, ARRAY, Row, ten}
use Rattle.scope.specs.Memory.{abstract_code}
use Rattle.type_abstract.specs.declared.HeapRow.{HeapRow}

-- the abstract type of a number; one that names none is read as the last
unfoldable pub abstract_at : ℕ → Abstract
abstract_at k = get_or ten k ARRAY

-- k is the number of a row, and is read as the same abstract type as a
pub record RowNumber (a k : ℕ) : Type 0 where
  pub small : k < 10
  pub same : abstract_at k ≡ abstract_at a

-- a row of document 01's table as the code holds it
unfoldable pub coded : Row → HeapRow
coded r = record { top = abstract_code r.top; bottom = abstract_code r.bottom }

abbrev pub abstract_is : Option Abstract → Maybe ℕ
abstract_is none = None
abstract_is (some a) = Some (abstract_code a)
