-- What it is that each of a list of fields, or of types, has a default.
use Rattle.std.specs.Prelude.{ℕ, ◌/◌, Bool, true, false, cond, List}
use Rattle.scope.specs.Lists.{every}
use Rattle.scope.specs.Syntax.{Val}
use Rattle.scope.specs.BodyRules.{holds_of, has_default}
use Rattle.type_table.specs.View.{val_at_code, field_at_code, codes_at}

-- the types of n fields, or n types
abbrev pub types_in : Bool → List ℕ → ℕ → ℕ → List Val
types_in true codes first n = holds_of (codes_at field_at_code codes first n)
types_in false codes first n = codes_at val_at_code codes first n

-- the code of such a type, by the word of the table
abbrev pub type_of : Bool → ℕ → ℕ
type_of fields w = cond fields (w / 2) w

-- each of them has a default
unfoldable pub all_default : Bool → List ℕ → ℕ → ℕ → Bool
all_default fields codes first n = every has_default (types_in fields codes first n)
