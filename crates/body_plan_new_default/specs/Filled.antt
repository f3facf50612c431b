-- What it is that a plan makes a struct of defaults.
use Rattle.std.specs.Prelude.{ℕ, ◌≡◌, true, List, [], ◌∷◌}
use Rattle.scope.specs.Refusals.{no_default}
use Rattle.scope.specs.Syntax.{exact, non_null}
use Rattle.scope.specs.BodyRules.{values, test, takes}
use Rattle.body_state.specs.declared.Planned.{Planned}
use Rattle.body_state.specs.State.{wants_at, planned_of}
use Rattle.body_plan_defaults.specs.Defaults.{all_default}

-- 29; what is taken is one word's
pub record Defaulted (codes : List ℕ) (first n top x : ℕ) (r : Planned) : Type 0 where
  pub is : planned_of codes r ≡ test (all_default true codes first n) no_default (takes (wants_at top) (values (non_null (exact x) ∷ [])))
