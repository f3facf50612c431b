-- Whether lent buffers are enough is asked one after the other: the first that is too small says no, and the last says yes for all.
use Prim.Native.Nat.{ℕ, ◌≤◌, ◌<◌}
use mathlib.Core.Path.{◌≡◌, sym, ◌∙◌}
use mathlib.Core.Bool.{Bool, true, false, not, ◌&&◌, and-false}
use mathlib.Core.List.{List}
use lib.ListN.{length}
use borrow.Author.Tests.{lt-leb, le-leb, leb-true, not-true, not-false}
use Rattle.scope.specs.Layout.{rows_size, codes_size}
use Rattle.scope.specs.Answers.{holds, table_lent}
use Rattle.scope.proofs.Truths.{from_both}

module _ (before : Bool) where
  pub too_small : {size : ℕ} (m : List ℕ) → length m < size → false ≡ (before && holds size m)
  too_small {size} m h = rw (lt-leb size (length m) h) (sym (and-false before))

  pub before_small : (this : Bool) → false ≡ before → false ≡ (before && this)
  before_small this e = rw (← e)

  pub enough_if : (this : Bool) → true ≡ before → this ≡ (before && this)
  enough_if this e = rw (← e)

  pub enough_more : {size : ℕ} (m : List ℕ) → size ≤ length m → true ≡ before → true ≡ (before && holds size m)
  enough_more {size} m h e = rw (le-leb size (length m) h, ← e)

pub enough_one : {size : ℕ} (m : List ℕ) → size ≤ length m → true ≡ holds size m
enough_one {size} m h = sym (le-leb size (length m) h)

pub none-small : {size : ℕ} (m : List ℕ) → length m < size → false ≡ holds size m
none-small {size} m h = sym (lt-leb size (length m) h)

-- what an answer about buffers before says
module _ (before : Bool) {r : Bool} (e : r ≡ before) where
  pub said-small : not r ≡ true → false ≡ before
  said-small h = sym (sym e ∙ not-true r h)

  pub said_enough : not r ≡ false → true ≡ before
  said_enough h = sym (sym e ∙ not-false r h)

pub ruleset size_exits = (too_small, before_small, enough_if, enough_more, enough_one, none-small, said-small, said_enough)

-- the table's buffers, one by one
pub table-sizes : (rows shared codes : List ℕ) → table_lent rows shared codes ≡ true → (rows_size ≤ length rows) × (codes_size ≤ length shared) × (codes_size ≤ length codes)
table-sizes rows shared codes e =
    let (first, three) = from_both _ (holds codes_size codes) e in
    let (one, two) = from_both (holds rows_size rows) (holds codes_size shared) first in
    (leb-true rows_size (length rows) one, leb-true codes_size (length shared) two, leb-true codes_size (length codes) three)
