-- Writing a row: each word is put after the one before, and the words that were put are one piece.
use Prim.Native.Nat.{ℕ, ◌+◌, ◌%◌, ◌≤◌, ◌<◌}
use mathlib.Core.Path.{◌≡◌, refl}
use mathlib.Core.List.{List, [], ◌∷◌, ◌++◌}
use native.Mathlib.Omega.{arith}
use lib.ListN.{length, set}
use Rattle.scope.specs.Layout.{row_span}
use Rattle.lent_u16.specs.Words.{word_limit}
use Rattle.type_table.proofs.Puts.{Puts, puts_one, puts_more, puts_length}
use Rattle.section_definition.specs.Rows.{low, row_low}

-- one word more
puts_next : {m m' m'' : List ℕ} {at n : ℕ} {ws : List ℕ} (w : ℕ) → Puts m m' at ws → length ws ≡ n → at + n < length m → m'' ≡ set m' (at + n) w → Puts m m'' at (ws ++ w ∷ [])
puts_next {m} {m'} {m''} {at} {n} w p e h f =
    let size = puts_length p in
    let one : Puts m' m'' (at + n) (w ∷ []) = rw f (puts_one m' (at + n) w (omega arith)) in
    puts_more p (rw e one)

pub four-put : {m m₁ m₂ m₃ m₄ : List ℕ} {at : ℕ} (a b c d : ℕ) → at + 4 ≤ length m → m₁ ≡ set m at (a % word_limit) → m₂ ≡ set m₁ (at + 1) (b % word_limit) → m₃ ≡ set m₂ (at + 2) (c % word_limit) → m₄ ≡ set m₃ (at + 3) (d % word_limit) → Puts m m₄ at (low a ∷ low b ∷ low c ∷ low d ∷ [])
four-put {m} {m₁} {at = at} a b c d h e f g i =
    let one : Puts m m₁ at (low a ∷ []) = rw e (puts_one m at (low a) (omega arith)) in
    let two = puts_next (low b) one refl (omega arith) f in
    let three = puts_next (low c) two refl (omega arith) g in
    puts_next (low d) three refl (omega arith) i

pub ruleset four_exits = (four-put)

-- the words of a row
pub row_put : {m m₁ m₂ m₃ m₄ : List ℕ} {at : ℕ} (a b c d e f g h i j k l : ℕ) → at + row_span ≤ length m → Puts m m₁ at (low a ∷ low b ∷ low c ∷ low d ∷ []) → Puts m₁ m₂ (at + 4) (low e ∷ low f ∷ low g ∷ low h ∷ []) → Puts m₂ m₃ (at + 8) (low i ∷ low j ∷ low k ∷ low l ∷ []) → Puts m₃ m₄ (at + 12) (low 0 ∷ low 0 ∷ low 0 ∷ low 0 ∷ []) → Puts m m₄ at (row_low a b c d e f g h i j k l)
row_put a b c d e f g h i j k l room p q r s = puts_more (puts_more (puts_more p q) r) s

pub row-starts : (at : ℕ) (m : List ℕ) → at + row_span ≤ length m → at + 4 ≤ length m
row-starts at m h = omega arith

module _ {m m₁ : List ℕ} {at : ℕ} {ws : List ℕ} (p : Puts m m₁ at ws) (h : at + row_span ≤ length m) where
  pub row_goes_on : at + 4 + 4 ≤ length m₁
  row_goes_on = let size = puts_length p in omega arith

  module _ {m₂ vs : List ℕ} (q : Puts m₁ m₂ (at + 4) vs) where
    pub row-comes_near : at + 8 + 4 ≤ length m₂
    row-comes_near = let size = puts_length p in let more = puts_length q in omega arith

    pub row_ends : {m₃ us : List ℕ} → Puts m₂ m₃ (at + 8) us → at + 12 + 4 ≤ length m₃
    row_ends r = let size = puts_length p in let more = puts_length q in let last = puts_length r in omega arith

pub ruleset row_exits = (row_put, row-starts, row_goes_on, row-comes_near, row_ends, puts_length)
