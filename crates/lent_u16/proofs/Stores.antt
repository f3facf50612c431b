-- One store in lent memory, whatever the width of its words: the word is there, and every other is as it was.
use Prim.Native.Nat.{ℕ, ◌%◌, ◌<◌}
use mathlib.Core.Path.{◌≡◌}
use mathlib.Core.List.{List}
use native.Mathlib.Nat.{mod-eq_of_lt}
use lib.ListN.{length, set, get_or, length-set}
use lib.Seq.{get_or-set_same, get_or-set_other}

pub record Stored (m m' : List ℕ) (at v : ℕ) : Type 0 where
  pub here : get_or m' at 0 ≡ v
  pub others : (i : ℕ) → (i ≡ at → ⊥) → get_or m' i 0 ≡ get_or m i 0
  pub size : length m' ≡ length m

-- `beyond` is the first number that a word cannot hold
pub stored : (beyond : ℕ) {m m' : List ℕ} {at v : ℕ} → m' ≡ set m at (v % beyond) → v < beyond → at < length m → Stored m m' at v
stored beyond {m} {m'} {at} {v} e small h =
    let low : v % beyond ≡ v = mod-eq_of_lt small in
    record {
      here = rw (e, low) (get_or-set_same m at v 0 h);
      others = λ i g. rw (e, low) (get_or-set_other m at i v 0 g);
      size = rw (e, low) (length-set m at v);
    }
