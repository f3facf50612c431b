-- What the short readers answer, by scope's definitions: what they tell is what the definition reads, at that place.
use Rattle.std.specs.Prelude.{ℕ, ◌+◌, ◌≤◌, ◌<◌, ◌^◌, ◌≡◌, List, length}
use Rattle.std.proofs.Math.Option.{some}
use Rattle.std.proofs.Math.ListN.{get_elem?}
use Rattle.scope.specs.Reading.{got, Reader}
use Rattle.scope.specs.Numbers.{u32}
use Rattle.body_quick_read.specs.declared.Item.{Item}
use Rattle.body_quick_read.specs.declared.Two.{Two}

-- the byte at a place, and 256 past the end
pub record ByteOr (s : List ℕ) (at r : ℕ) : Type 0 where
  pub is : r < 256 → get_elem? s at ≡ some r
  pub inside : r < 256 → at < length s
  pub most : r ≤ 256

-- a u32, or no bytes
pub record NumberTold (s : List ℕ) (at : ℕ) (r : Item) : Type 0 where
  pub is : (r.size ≡ 0 → ⊥) → u32 s at ≡ got r.value (at + r.size)
  pub inside : (r.size ≡ 0 → ⊥) → at + r.size ≤ length s
  pub small : r.value < 2 ^ 32

-- two of them, one after the other, or no bytes
pub record TwoTold (s : List ℕ) (at : ℕ) (r : Two) : Type 0 where
  pub between : (r.size ≡ 0 → ⊥) → ℕ
  pub first : (n : r.size ≡ 0 → ⊥) → u32 s at ≡ got r.first (between n)
  pub second : (n : r.size ≡ 0 → ⊥) → u32 s (between n) ≡ got r.second (at + r.size)
  pub inside : (r.size ≡ 0 → ⊥) → at + r.size ≤ length s
  pub small : (r.first < 2 ^ 32) × (r.second < 2 ^ 32)

-- how many bytes an item takes, or none
pub record SizeTold {A : Type 0} (one : Reader A) (s : List ℕ) (at r : ℕ) : Type 0 where
  pub is : (r ≡ 0 → ⊥) → (x : A) × (one s at ≡ got x (at + r))
  pub inside : (r ≡ 0 → ⊥) → at + r ≤ length s
