-- Document 01's size of a supertype chain, as a relation: 63 steps up.
use Rattle.std.specs.Prelude.{ℕ, zero, suc, ◌<◌, ◌≤◌}
use Rattle.scope.specs.Sizes.{most_steps}
use Rattle.scope.specs.Syntax.{Types}
use Rattle.facts_types.specs.TypeRelations.{Supertype}

-- so many steps lead from x up to y
pub data Steps (ts : Types) : ℕ → ℕ → ℕ → Type 0 where
  stay : {x : ℕ} → Steps ts zero x x
  step : {n x p y : ℕ} → Supertype ts x p → Steps ts n p y → Steps ts (suc n) x y

-- 63 steps up a supertype chain
pub record ShortChain (ts : Types) (x : ℕ) : Type 0 where
  pub short : {n y : ℕ} → Steps ts n x y → n ≤ most_steps

pub record ShortChains (ts : Types) (n : ℕ) : Type 0 where
  pub each : (x : ℕ) → x < n → ShortChain ts x
