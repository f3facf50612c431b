-- A forest over numbers. `p x` is what stands above x: 0 nothing, else one more than the number. `p x ≤ x`: what is above is lower.
use Rattle.std.specs.Prelude.{ℕ, suc, ◌+◌, ◌≤◌, ◌<◌, ◌≡◌}
use Rattle.scope.specs.Ranges.{total, base}

-- from x up to y
pub data Up (p : ℕ → ℕ) : ℕ → ℕ → Type 0 where
  here : {x : ℕ} → Up p x x
  above : {x q y : ℕ} → p x ≡ suc q → Up p q y → Up p x y

pub record Lower (p : ℕ → ℕ) (n : ℕ) : Type 0 where
  pub each : (x : ℕ) → x < n → p x ≤ x

-- a number's size: itself and the sizes of those right below it
pub record Sizes (p : ℕ → ℕ) (n : ℕ) (size : ℕ → ℕ) : Type 0 where
  pub each : (y : ℕ) → y < n → size y ≡ 1 + total p size (suc y) 0 n

-- a number begins behind its parent, or behind nothing, and behind those of its siblings that are lower
pub record Starts (p : ℕ → ℕ) (n : ℕ) (size start : ℕ → ℕ) : Type 0 where
  pub each : (x : ℕ) → x < n → start x ≡ base start (p x) + total p size (p x) 0 x
