-- The two words of a row that say its range, by their places in it. They are 0 where there is no type.
use Rattle.std.specs.Prelude.{ℕ, ◌≤◌, ◌<◌, ◌≡◌, List, length}
use Rattle.scope.specs.Layout.{row_span}
use Rattle.type_table.specs.View.{word_of}

-- where the range starts: one more than the types that stand before it
abbrev pub start_word : ℕ
start_word = 12

-- where it ends: behind all types that are below it
abbrev pub end_word : ℕ
end_word = 13

abbrev pub start_at : List ℕ → ℕ → ℕ
start_at rows x = word_of rows x start_word

abbrev pub end_at : List ℕ → ℕ → ℕ
end_at rows x = word_of rows x end_word

-- all words but the ranges of the first n rows are as before
pub record Beside (n : ℕ) (rows rows' : List ℕ) : Type 0 where
  pub size : length rows' ≡ length rows
  pub words : (x k : ℕ) → k < start_word → word_of rows' x k ≡ word_of rows x k
  pub spare : (x k : ℕ) → end_word < k → k < row_span → word_of rows' x k ≡ word_of rows x k
  pub past : (x k : ℕ) → n ≤ x → word_of rows' x k ≡ word_of rows x k
