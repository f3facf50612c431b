-- `Between s at w end`: the bytes of s from the place `at` up to the place `end` are w.
use Rattle.std.specs.Prelude.{ℕ, ◌+◌, ◌≡◌, List, [], ◌∷◌}
use Rattle.std.proofs.Math.Option.{some}
use Rattle.std.proofs.Math.ListN.{get_elem?}

pub data Between (s : List ℕ) : ℕ → List ℕ → ℕ → Type 0 where
  nothing : {at : ℕ} → Between s at [] at
  byte : {at b end : ℕ} {w : List ℕ} → get_elem? s at ≡ some b → Between s (at + 1) w end → Between s at (b ∷ w) end
