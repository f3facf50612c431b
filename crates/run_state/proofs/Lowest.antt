-- How many operands lie below a frame, as the code finds it.
use Prim.Native.Nat.{ℕ, zero, suc, ◌+◌, ◌-◌, ◌*◌}
use mathlib.Core.Path.{◌≡◌, refl}
use mathlib.Core.List.{List}
use native.Mathlib.Omega.{arith}
use Rattle.scope.specs.Layout.{block_span}
use Rattle.run_values.specs.Layout.{below_word}
use Rattle.lent_u16.specs.Words.{WordAt}
use Rattle.run_state.specs.Machines.{lower}

pub lower-none : (blocks : List ℕ) {depth : ℕ} → depth ≡ 0 → 0 ≡ lower blocks depth
unfolding lower
lower-none blocks e = rw e refl

pub lower-some : {blocks : List ℕ} {depth r : ℕ} → (depth ≡ 0 → ⊥) → WordAt blocks (block_span * (depth - 1) + below_word) r → r ≡ lower blocks depth
unfolding lower
lower-some {depth = zero} n w = absurd (n refl)
lower-some {depth = suc d} n w = let less : suc d - 1 ≡ d = omega arith in (rw less at w).is

pub ruleset lower_exits = (lower-none, lower-some)
