-- Rule 2 over codes as they lie in the table: the test of two codes, and of two lists of them, of fields or of value types.
use Rattle.std.specs.Prelude.{ℕ, Bool, true, false, List, leb, eqb}
use Rattle.scope.specs.Lists.{pairwise, prefixwise}
use Rattle.scope.specs.Syntax.{Types}
use Rattle.scope.specs.Order.{val_below}
use Rattle.scope.specs.TypeRules.{field_matches}
use Rattle.type_table.specs.View.{val_at_code, field_at_code, codes_at}

-- a field's code against a field's, or a value type's against a value type's
unfoldable pub code_matches : Bool → Types → ℕ → ℕ → Bool
code_matches true ts a b = field_matches ts (field_at_code a) (field_at_code b)
code_matches false ts a b = val_below ts (val_at_code a) (val_at_code b)

-- the n codes from i on against the m codes from j on
unfoldable pub codes_match : Bool → Types → List ℕ → ℕ → ℕ → ℕ → ℕ → Bool
codes_match true ts codes i n j m = prefixwise (field_matches ts) (codes_at field_at_code codes i n) (codes_at field_at_code codes j m)
codes_match false ts codes i n j m = pairwise (val_below ts) (codes_at val_at_code codes i n) (codes_at val_at_code codes j m)

-- of fields at least as many, of value types just as many
abbrev pub enough : Bool → ℕ → ℕ → Bool
enough true n m = leb m n
enough false n m = eqb n m
