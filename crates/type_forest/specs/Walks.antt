-- The two walks that lay a forest out. From the last number to the first: each adds itself, and then hands its size to its
-- parent. From the first to the last: each takes its start from its parent's end so far, and moves that on by its size.
use Rattle.std.specs.Prelude.{ℕ, zero, suc, ◌+◌, ◌-◌, ◌≤◌, ◌<◌, ◌≡◌}
use Rattle.scope.specs.Ranges.{total, base}

-- what waits for the parents below j, of the m numbers from k on
unfoldable pub waiting : (ℕ → ℕ) → (ℕ → ℕ) → ℕ → ℕ → ℕ → ℕ
waiting p w k m zero = 0
waiting p w k m (suc j) = total p w j k m + waiting p w k m j

-- the numbers from k on have their sizes, and the others what is below them so far
pub record Sizing (p : ℕ → ℕ) (n k : ℕ) (w : ℕ → ℕ) : Type 0 where
  pub most : k ≤ n
  pub done : (y : ℕ) → k ≤ y → y < n → w y ≡ 1 + total p w (suc y) k (n - k)
  pub part : (y : ℕ) → y < k → w y ≡ total p w (suc y) k (n - k)
  pub few : waiting p w k (n - k) (suc k) ≤ n - k

-- one turn
pub record Grown (p : ℕ → ℕ) (k : ℕ) (w w' : ℕ → ℕ) : Type 0 where
  pub own : w' k ≡ suc (w k)
  pub parent : (q : ℕ) → p k ≡ suc q → w' q ≡ w q + w' k
  pub others : (y : ℕ) → (y ≡ k → ⊥) → (p k ≡ suc y → ⊥) → w' y ≡ w y

-- the numbers before x have their starts, and their ends so far
pub record Placing (p : ℕ → ℕ) (n : ℕ) (size : ℕ → ℕ) (x : ℕ) (start end : ℕ → ℕ) (next : ℕ) : Type 0 where
  pub most : x ≤ n
  pub starts : (y : ℕ) → y < x → start y ≡ base start (p y) + total p size (p y) 0 y
  pub ends : (y : ℕ) → y < x → end y ≡ start y + 1 + total p size (suc y) 0 x
  pub later : (y : ℕ) → x ≤ y → y < n → end y ≡ size y
  pub root : next ≡ 1 + total p size 0 0 x
  pub bound : (y : ℕ) → y < x → start y + size y ≤ n + 1

-- one turn
pub record Placed (p : ℕ → ℕ) (x : ℕ) (start end : ℕ → ℕ) (next : ℕ) (start' end' : ℕ → ℕ) (next' : ℕ) : Type 0 where
  pub alone : p x ≡ zero → (start' x ≡ next) × (next' ≡ next + end x)
  pub child : (q : ℕ) → p x ≡ suc q → (start' x ≡ end q) × (end' q ≡ end q + end x) × (next' ≡ next)
  pub own : end' x ≡ start' x + 1
  pub starts : (y : ℕ) → (y ≡ x → ⊥) → start' y ≡ start y
  pub ends : (y : ℕ) → (y ≡ x → ⊥) → (p x ≡ suc y → ⊥) → end' y ≡ end y
