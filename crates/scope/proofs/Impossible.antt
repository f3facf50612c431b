-- Two facts that cannot both hold. Congruence closure (`cc`) makes of them that 0 is 1; these laws draw the end.
use Prim.Native.Nat.{ℕ}
use mathlib.Core.Path.{◌≡◌}
use native.Mathlib.Omega.{arith}

pub contradiction : ◌≡◌ {A = ℕ} 0 1 → ⊥
contradiction z = omega arith

pub impossible : {A : Type 0} → ◌≡◌ {A = ℕ} 0 1 → A
impossible z = absurd (contradiction z)
