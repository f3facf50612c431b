-- An object that is made: its row is put after the others', with its cells after theirs. The objects before it say what they
-- said, and the cells still lie end to end.
use Prim.Native.Nat.{ℕ, zero, suc, ◌+◌, ◌-◌, ◌*◌, ◌≤◌, ◌<◌}
use mathlib.Core.Path.{◌≡◌, refl, sym, ap, ap₂, ◌∙◌}
use mathlib.Core.Logic.{◌⊎◌, inl, inr}
use mathlib.Core.Bool.{true, false}
use mathlib.Core.Option.{some}
use mathlib.Core.List.{List, [], ◌∷◌, ◌++◌}
use native.Mathlib.Omega.{arith}
use lib.ListN.{length, get_or, set, length-set}
use lib.Seq.{get_or-set_same, get_or-set_other}
use lib.Dec.{eqb}
use borrow.Author.Tests.{ne_eqb, eqb-true, eqb-false}
use Rattle.scope.specs.Layout.{value_span, object_span, objects_size, cells_size}
use Rattle.scope.specs.Sizes.{most_objects, most_cells}
use Rattle.scope.specs.Machine.{Value, Object}
use Rattle.scope.proofs.Truths.{decided}
use Rattle.run_values.specs.Layout.{type_word, descriptor_word, first_word, count_word}
use Rattle.type_table.specs.View.{link_at}
use Rattle.run_values.specs.Values.{value_at, values_from, AllCanon}
use Rattle.run_values.proofs.Numbered.{numbered_more, numbered_same}
use Rattle.run_values.proofs.Laws.{entries_same}
use Rattle.run_cells.specs.Cells.{Filled}
use Rattle.run_objects.specs.Objects.{object_word, object_with, object_at, store_at, cells_below, Packed, Kept}
use Rattle.run_objects.proofs.Packs.{below_next, packed_none, packed-inside}
use Rattle.run_heap.specs.Heap.{with_row, RowPut}

other_word : (l : List ℕ) (at v i : ℕ) {w : ℕ} → (i ≡ at → ⊥) → get_or l i 0 ≡ w → get_or (set l at v) i 0 ≡ w
other_word l at v i d e = get_or-set_other l at i v 0 d ∙ e

module _ (objects : List ℕ) (n x d total k : ℕ) (room : object_span * (n + 1) ≤ length objects) where
  row_words : RowPut objects (with_row objects n x d total k) n x d total k
  unfolding with_row
  row_words =
      let l₁ : List ℕ = set objects (object_span * n + type_word) x in
      let l₂ : List ℕ = set l₁ (object_span * n + descriptor_word) d in
      let l₃ : List ℕ = set l₂ (object_span * n + first_word) total in
      let size₁ : length l₁ ≡ length objects = length-set objects (object_span * n + type_word) x in
      let size₂ : length l₂ ≡ length objects = length-set l₁ (object_span * n + descriptor_word) d ∙ size₁ in
      let size₃ : length l₃ ≡ length objects = length-set l₂ (object_span * n + first_word) total ∙ size₂ in
      record {
        type =
            other_word l₃ (object_span * n + count_word) k (object_span * n + type_word) (λ e. omega arith)
            (other_word l₂ (object_span * n + first_word) total (object_span * n + type_word) (λ e. omega arith)
            (other_word l₁ (object_span * n + descriptor_word) d (object_span * n + type_word) (λ e. omega arith) (get_or-set_same objects (object_span * n + type_word) x 0 (omega arith))));
        descriptor =
            other_word l₃ (object_span * n + count_word) k (object_span * n + descriptor_word) (λ e. omega arith)
            (other_word l₂ (object_span * n + first_word) total (object_span * n + descriptor_word) (λ e. omega arith) (get_or-set_same l₁ (object_span * n + descriptor_word) d 0 (omega arith)));
        first =
            other_word l₃ (object_span * n + count_word) k (object_span * n + first_word) (λ e. omega arith) (get_or-set_same l₂ (object_span * n + first_word) total 0 (omega arith));
        count = get_or-set_same l₃ (object_span * n + count_word) k 0 (omega arith);
        below = λ i h.
            other_word l₃ (object_span * n + count_word) k i (λ e. omega arith)
            (other_word l₂ (object_span * n + first_word) total i (λ e. omega arith)
            (other_word l₁ (object_span * n + descriptor_word) d i (λ e. omega arith) (other_word objects (object_span * n + type_word) x i (λ e. omega arith) refl)));
        size = length-set l₃ (object_span * n + count_word) k ∙ size₃;
      }

pub row_put : {objects objects' : List ℕ} {n x d total k : ℕ} → objects' ≡ with_row objects n x d total k → object_span * (n + 1) ≤ length objects → RowPut objects objects' n x d total k
row_put {objects} {objects'} {n} {x} {d} {total} {k} e room = rw e (row_words objects n x d total k room)

-- what the words below say

below_same : (objects objects' : List ℕ) (n : ℕ) → ((i : ℕ) → i < object_span * n → get_or objects' i 0 ≡ get_or objects i 0) → cells_below objects' n ≡ cells_below objects n
unfolding cells_below
below_same objects objects' zero same = refl
below_same objects objects' (suc n) same = ap₂ ◌+◌ (below_same objects objects' n (λ i h. same i (omega arith))) (same (object_span * n + count_word) (omega arith))

object_same : (objects objects' cells cells' : List ℕ) (o : ℕ) → ((i : ℕ) → i < object_span * (o + 1) → get_or objects' i 0 ≡ get_or objects i 0) → values_from cells' (object_word objects o first_word) (object_word objects o count_word) ≡ values_from cells (object_word objects o first_word) (object_word objects o count_word) → object_at objects' cells' o ≡ object_at objects cells o
unfolding object_at
object_same objects objects' cells cells' o same e =
    rw (same (object_span * o + type_word) (omega arith), same (object_span * o + descriptor_word) (omega arith), same (object_span * o + first_word) (omega arith), same (object_span * o + count_word) (omega arith)) (ap (object_with objects o) e)

made_words : (objects cells : List ℕ) (n : ℕ) {x d total k : ℕ} → object_word objects n type_word ≡ x → object_word objects n descriptor_word ≡ d → object_word objects n first_word ≡ total → object_word objects n count_word ≡ k → object_at objects cells n ≡ record { type = x; descriptor = link_at d; fields = values_from cells total k }
unfolding object_at
made_words objects cells n a b c d = rw (a, b, c, d)

module _ {objects objects' : List ℕ} {n x d total k : ℕ} (p : Packed objects n total) (r : RowPut objects objects' n x d total k) where
  pub packed_more : Packed objects' (n + 1) (total + k)
  packed_more =
      let whole : cells_below objects' n ≡ total = below_same objects objects' n r.below ∙ sym p.ends in
      record {
        starts = starts whole;
        ends = sym (below_next objects' n ∙ ap₂ ◌+◌ whole r.count);
      }
    where
      starts : cells_below objects' n ≡ total → (o : ℕ) → o < n + 1 → object_word objects' o first_word ≡ cells_below objects' o
      starts whole o h = go (decided (eqb o n))
        where
          go : (eqb o n ≡ true) ⊎ (eqb o n ≡ false) → object_word objects' o first_word ≡ cells_below objects' o
          go (inl z) = let e : o ≡ n = eqb-true o n z in rw e (r.first ∙ sym whole)
          go (inr z) =
              let g : o ≡ n → ⊥ = eqb-false o n z in
              let l : o < n = omega (arith, g) in
              r.below (object_span * o + first_word) (omega arith) ∙ p.starts o l ∙ sym (below_same objects objects' o (λ i j. r.below i (omega arith)))

  module _ (cells cells' : List ℕ) (same : (i : ℕ) → i < value_span * total → get_or cells' i 0 ≡ get_or cells i 0) where
    pub store_more : store_at objects' cells' (n + 1) ≡ store_at objects cells n ++ (record { type = x; descriptor = link_at d; fields = values_from cells' total k } ∷ [])
    store_more =
        numbered_more (object_at objects' cells') 0 n
        ∙ ap₂ (λ (os : List Object) (o : Object). os ++ (o ∷ [])) before made
      where
        before : store_at objects' cells' n ≡ store_at objects cells n
        before =
            numbered_same (object_at objects cells) (object_at objects' cells') 0 n
            (λ o a h.
            let l : o < n = omega arith in
            object_same objects objects' cells cells' o (λ i j. r.below i (omega arith))
            (entries_same cells cells' total same value_at (object_word objects o first_word) (object_word objects o count_word) (packed-inside p o l)))

        made : object_at objects' cells' (0 + n) ≡ record { type = x; descriptor = link_at d; fields = values_from cells' total k }
        made = let here : 0 + n ≡ n = omega arith in ap (object_at objects' cells') here ∙ made_words objects' cells' n r.type r.descriptor r.first r.count

  pub store_made : {cells cells' : List ℕ} {vs : List Value} → Filled cells cells' total k vs → store_at objects' cells' (n + 1) ≡ store_at objects cells n ++ (record { type = x; descriptor = link_at d; fields = vs } ∷ [])
  store_made {cells} {cells'} f =
      store_more cells cells' f.below
      ∙ ap (λ (fs : List Value). store_at objects cells n ++ (record { type = x; descriptor = link_at d; fields = fs } ∷ [])) f.values

-- one more than a number says that number
pub link_more : (o : ℕ) → link_at (o + 1) ≡ some o
link_more o = let same : o + 1 - 1 ≡ o = omega arith in rw (ne_eqb (o + 1) 0 (λ e. omega arith), same)

pub kept_more : {objects objects' cells cells' : List ℕ} {n x d total k : ℕ} → Kept objects cells n total → RowPut objects objects' n x d total k → n < most_objects → total + k ≤ most_cells → length cells' ≡ length cells → AllCanon cells' (total + k) → Kept objects' cells' (n + 1) (total + k)
kept_more p r few most size canon =
    record {
      object_room = omega (arith, p.object_room, r.size);
      cell_room = omega (arith, p.cell_room);
      few = omega arith;
      most = most;
      packed = packed_more p.packed r;
      canon = canon;
    }

-- no object yet
pub kept-none : (objects cells : List ℕ) → objects_size ≤ length objects → cells_size ≤ length cells → Kept objects cells 0 0
kept-none objects cells a b =
    record {
      object_room = a;
      cell_room = b;
      few = omega arith;
      most = omega arith;
      packed = packed_none objects;
      canon = record { each = λ j h. absurd (omega arith) };
    }
