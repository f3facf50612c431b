-- What it is that a label's last type is split off, and that a plan follows the label's rule of a branching cast, by codes.
use Rattle.std.specs.Prelude.{ℕ, ◌<◌, ◌≡◌, List, [], ◌∷◌, ◌++◌}
use Rattle.std.specs.Prelude.{None, Some}
use Rattle.std.proofs.Math.Option.{Option, none, some}
use Rattle.scope.specs.Told.{Maybe}
use Rattle.scope.specs.Refusals.{bad_branch}
use Rattle.scope.specs.Syntax.{Val, Types}
use Rattle.scope.specs.Order.{val_below}
use Rattle.scope.specs.BodyRules.{value, values, test, need, takes, from_top, last_of}
use Rattle.type_table.specs.View.{val_at_code}
use Rattle.body_state.specs.declared.Values.{Values}
use Rattle.body_state.specs.declared.Planned.{Planned}
use Rattle.body_state.specs.Layout.{code_bound}
use Rattle.body_state.specs.State.{wants_at, values_of, planned_of}

abbrev pub split_option : List ℕ → Maybe (Values × ℕ) → Option (List Val × Val)
split_option codes None = none
split_option codes (Some (before, last)) = some (values_of codes before, val_at_code last)

pub record SplitOf (codes : List ℕ) (vs : Values) (r : Maybe (Values × ℕ)) : Type 0 where
  pub is : split_option codes r ≡ last_of (values_of codes vs)

-- two small codes of value types
pub record Small (a b : ℕ) : Type 0 where
  pub first : a < code_bound
  pub second : b < code_bound

-- 25 of the label, by codes: what is taken before the object is one word's
pub record Carries (codes : List ℕ) (ts : Types) (first source carried falls : ℕ) (label : Values) (r : Planned) : Type 0 where
  pub is : planned_of codes r
      ≡ need (last_of (values_of codes label)) bad_branch (λ split.
      test (val_below ts (val_at_code carried) split.1) bad_branch
      (takes (wants_at first ++ value (val_at_code source) ∷ from_top split.0) (values (split.0 ++ val_at_code falls ∷ []))))
