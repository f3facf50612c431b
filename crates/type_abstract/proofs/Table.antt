-- The table's rule. One test of the whole constant table, that it is document 01's table as the code holds it, is
-- computed where the code reads the table; row_at turns it into the fact at each row.
use Prim.Native.Nat.{ℕ, zero, suc, ◌<◌, ◌≤◌}
use native.Mathlib.Nat.{le_of_suc-le-suc, not-suc-le-zero}
use native.Mathlib.Omega.{arith}
use mathlib.Core.Path.{◌≡◌, refl, sym, ap, ◌∙◌}
use mathlib.Core.List.{List, [], ◌∷◌, map}
use lib.ListN.{length, get_or}
use Rattle.scope.specs.Abstract.{Abstract, ARRAY, Row, row, ten}
use Rattle.scope.specs.Memory.{abstract_code}
use Rattle.type_abstract.specs.declared.HeapRow.{HeapRow}
use Rattle.type_abstract.specs.Heaps.{abstract_at, RowNumber, coded}

-- document 01's table as the code holds it
abbrev pub ten_rows : List HeapRow
ten_rows = map (λ a. coded (row a)) ten

pub get_d_map : {A B : Type 0} (f : A → B) (l : List A) (i : ℕ) (x : A) (y : B) → i < length l → get_or (map f l) i y ≡ f (get_or l i x)
get_d_map f [] i x y h = absurd (not-suc-le-zero h)
get_d_map f (a ∷ l) zero x y h = refl
get_d_map f (a ∷ l) (suc i) x y h = get_d_map f l i x y (le_of_suc-le-suc h)

-- the fact at each row, from the test of the whole table
pub row_at : {rows : List HeapRow} {a k : ℕ} (d : HeapRow) → rows ≡ ten_rows → RowNumber a k → get_or rows k d ≡ coded (row (abstract_at a))
unfolding abstract_at
row_at {rows} {a} {k} d e p =
    ap (λ (l : List HeapRow). get_or l k d) e
    ∙ get_d_map (λ x. coded (row x)) ten k ARRAY d p.small
    ∙ ap (λ (x : Abstract). coded (row x)) p.same

-- a number of 10 or more is read as the last row
out_of_list : (l : List Abstract) (k : ℕ) → length l ≤ k → get_or l k ARRAY ≡ ARRAY
out_of_list [] k h = refl
out_of_list (x ∷ l) zero h = absurd (not-suc-le-zero h)
out_of_list (x ∷ l) (suc k) h = out_of_list l k (le_of_suc-le-suc h)

pub last_row : {a : ℕ} → 10 ≤ a → RowNumber a 9
unfolding abstract_at
last_row {a} h = record { small = omega arith; same = sym (out_of_list ten a h) }

-- the parts of a row
module _ {h : HeapRow} (x : Row) (e : h ≡ coded x) where
  pub top_is : h.top ≡ abstract_code x.top
  unfolding coded
  top_is = ap (λ (r : HeapRow). r.top) e

  pub bottom_is : h.bottom ≡ abstract_code x.bottom
  unfolding coded
  bottom_is = ap (λ (r : HeapRow). r.bottom) e
