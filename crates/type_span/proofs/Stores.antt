-- Words stored at a place of a row: the other words stand, and the view does not look at a range.
use Prim.Native.Nat.{ℕ, suc, ◌+◌, ◌*◌, ◌%◌, ◌≤◌, ◌<◌, ◌^◌}
use native.Mathlib.Omega.{arith}
use mathlib.Core.Path.{◌≡◌, refl, ◌∙◌, fun_ext}
use mathlib.Core.List.{List}
use lib.ListN.{length, set}
use Rattle.scope.specs.Layout.{row_span}
use Rattle.lent_u16.specs.Words.{word_limit}
use Rattle.lent_u16.proofs.Laws.{put_past}
use Rattle.lent_u16.proofs.Stores.{Stored, stored}
use Rattle.type_table.specs.View.{word_of, view}
use Rattle.type_table.proofs.Rows.{no_row}
use Rattle.type_span.specs.Span.{start_word, end_word, Beside}

-- word j of row x is v, and no other word of the rows has changed
pub record Set (rows rows' : List ℕ) (x j v : ℕ) : Type 0 where
  pub here : word_of rows' x j ≡ v
  pub row : (y k : ℕ) → (y ≡ x → ⊥) → k < row_span → word_of rows' y k ≡ word_of rows y k
  pub word : (y k : ℕ) → (k ≡ j → ⊥) → k < row_span → word_of rows' y k ≡ word_of rows y k
  pub beside : (n : ℕ) → x < n → start_word ≤ j → Beside n rows rows'

pub set_is : {rows rows' : List ℕ} (x j : ℕ) {v : ℕ} → rows' ≡ set rows (row_span * x + j) (v % word_limit) → v < word_limit → row_span * suc x ≤ length rows → j ≤ end_word → Set rows rows' x j v
set_is {rows} {rows'} x j {v} e small room h =
    let s : Stored rows rows' (row_span * x + j) v = stored word_limit e small (omega arith) in
    record {
      here = s.here;
      row = λ y k g l. s.others (row_span * y + k) (λ q. omega arith);
      word = λ y k g l. s.others (row_span * y + k) (λ q. omega arith);
      beside = λ n less late. record {
        size = s.size;
        words = λ y k l. s.others (row_span * y + k) (λ q. omega arith);
        spare = λ y k l m. s.others (row_span * y + k) (λ q. omega arith);
        past = λ y k l. s.others (row_span * y + k) (λ q. omega arith);
      };
    }

pub beside_more : {m n : ℕ} {rows rows₁ rows₂ : List ℕ} → Beside m rows rows₁ → Beside n rows₁ rows₂ → (l : ℕ) → m ≤ l → n ≤ l → Beside l rows rows₂
beside_more b c l h g =
    record {
      size = c.size ∙ b.size;
      words = λ x k less. c.words x k less ∙ b.words x k less;
      spare = λ x k late less. c.spare x k late less ∙ b.spare x k late less;
      past = λ x k less. c.past x k (omega arith) ∙ b.past x k (omega arith);
    }

pub beside_none : (n : ℕ) (rows : List ℕ) → Beside n rows rows
beside_none n rows = record { size = refl; words = λ x k less. refl; spare = λ x k late less. refl; past = λ x k less. refl }

module _ (rows rows' : List ℕ) (same : (x k : ℕ) → k < start_word → word_of rows' x k ≡ word_of rows x k) (codes : List ℕ) where
  words-view : (x : ℕ) → view rows' codes x ≡ view rows codes x
  unfolding view
  words-view x =
      let word : (k : ℕ) → k < start_word → word_of rows' x k ≡ word_of rows x k = same x in
      rw (word 0 (omega arith), word 1 (omega arith), word 2 (omega arith), word 3 (omega arith), word 4 (omega arith), word 5 (omega arith), word 6 (omega arith), word 7 (omega arith), word 8 (omega arith), word 9 (omega arith), word 10 (omega arith), word 11 (omega arith))

  pub same_words-view : view rows' codes ≡ view rows codes
  same_words-view = fun_ext words-view

pub beside_view : {n : ℕ} {rows rows' : List ℕ} → Beside n rows rows' → (codes : List ℕ) → view rows' codes ≡ view rows codes
beside_view {n} {rows} {rows'} b codes = same_words-view rows rows' b.words codes

-- past the greatest number of a row a store does nothing
pub no-row-put : (rows : List ℕ) (x k v : ℕ) → length rows * 2 < 2 ^ 63 → no_row ≤ x → rows ≡ set rows (row_span * x + k) (v % word_limit)
no-row-put rows x k v room h = put_past rows (row_span * x + k) (v % word_limit) (let r : length rows * 2 < 2 ^ 63 = room in omega arith)
