-- Each way out of putting the counts.
use Prim.Native.Nat.{ℕ, ◌+◌, ◌-◌, ◌≤◌}
use mathlib.Core.Path.{◌≡◌, refl}
use mathlib.Core.List.{List, [], ◌∷◌, ◌++◌}
use native.Mathlib.Omega.{arith}
use lib.ListN.{length, set, take, replicate}
use Rattle.scope.specs.Layout.{counts_size}
use Rattle.scope.specs.Memory.{filled}
use Rattle.run_state.specs.declared.Stage.{Stage}
use Rattle.run_settle.specs.Counts.{counts_of, CountRoom}

abbrev six : List ℕ → ℕ → ℕ → ℕ → ℕ → ℕ → ℕ → List ℕ
six m a b c d e f = set (set (set (set (set (set m 0 a) 1 b) 2 c) 3 d) 4 e) 5 f

six-filled : (m : List ℕ) (a b c d e f : ℕ) → counts_size ≤ length m → take counts_size (six m a b c d e f) ++ replicate (length (six m a b c d e f) - counts_size) 0 ≡ filled m (a ∷ b ∷ c ∷ d ∷ e ∷ f ∷ [])
six-filled (t ∷ u ∷ v ∷ w ∷ x ∷ y ∷ m) a b c d e f h = refl
six-filled (t ∷ u ∷ v ∷ w ∷ x ∷ []) a b c d e f h = absurd (omega arith)
six-filled (t ∷ u ∷ v ∷ w ∷ []) a b c d e f h = absurd (omega arith)
six-filled (t ∷ u ∷ v ∷ []) a b c d e f h = absurd (omega arith)
six-filled (t ∷ u ∷ []) a b c d e f h = absurd (omega arith)
six-filled (t ∷ []) a b c d e f h = absurd (omega arith)
six-filled [] a b c d e f h = absurd (omega arith)

module _ {st : Stage} {m : List ℕ} (room : CountRoom st m) (count : ℕ) where
  pub counts-put :
      {m₁ m₂ m' : List ℕ} → m₁ ≡ set (set (set m 0 st.place) 1 st.objects) 2 st.cells → m₂ ≡ set (set (set m₁ 3 count) 4 (st.base + st.height)) 5 st.depth
      → m' ≡ take counts_size m₂ ++ replicate (length m₂ - counts_size) 0 → m' ≡ filled m (counts_of count st)
  counts-put a b c =
      rw (c, b, a) (six-filled m st.place st.objects st.cells count (st.base + st.height) st.depth room.room)

pub ruleset count_exits = (counts-put)
