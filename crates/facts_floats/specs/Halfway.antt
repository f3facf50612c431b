-- A second account of "to nearest, ties to even": by the two half-way points beside r. n / d units lie between the one below
-- r and the one above it, and on one of them only where r is even. Below 0 and above the infinite magnitude there is none.
use Rattle.std.specs.Prelude.{ℕ, suc, ◌+◌, ◌*◌, ◌%◌, ◌≤◌, ◌<◌, ◌≡◌}
use Rattle.scope.specs.Rounding.{Width, infinite, units}

-- twice the half-way point between a magnitude and the next, multiplied by d as n is
abbrev pub twice_halfway : Width → ℕ → ℕ → ℕ
twice_halfway w d m = (units w m + units w (suc m)) * d

pub record Halfway (w : Width) (n d r : ℕ) : Type 0 where
  pub within : r ≤ infinite w
  pub under : r < infinite w → n * 2 ≤ twice_halfway w d r
  pub under_even : r < infinite w → n * 2 ≡ twice_halfway w d r → r % 2 ≡ 0
  pub over : (m : ℕ) → r ≡ suc m → twice_halfway w d m ≤ n * 2
  pub over_even : (m : ℕ) → r ≡ suc m → n * 2 ≡ twice_halfway w d m → r % 2 ≡ 0
