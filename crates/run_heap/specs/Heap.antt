-- A new object: room for it, and its words.
use Rattle.std.specs.Prelude.{ℕ, ◌+◌, ◌*◌, ◌<◌, ◌≤◌, ◌≡◌, Bool, true, List, get_or, length, set}
use Rattle.scope.specs.Layout.{object_span}
use Rattle.scope.specs.Sizes.{most_objects, most_cells}
use Rattle.scope.specs.Machine.{has_room}
use Rattle.run_values.specs.Layout.{type_word, descriptor_word, first_word, count_word}
use Rattle.run_objects.specs.Objects.{object_word, store_at, Packed}

pub record RoomFor (n total need : ℕ) (r : Bool) : Type 0 where
  pub is : (objects cells : List ℕ) → Packed objects n total → r ≡ has_room (store_at objects cells n) need
  pub few : r ≡ true → n < most_objects
  pub most : r ≡ true → total + need ≤ most_cells

-- memory with other words of object n
unfoldable pub with_row : List ℕ → ℕ → ℕ → ℕ → ℕ → ℕ → List ℕ
with_row objects n x d total k =
    set (set (set (set objects (object_span * n + type_word) x) (object_span * n + descriptor_word) d) (object_span * n + first_word) total) (object_span * n + count_word) k

-- the words of object n are these, and those below are as they were
pub record RowPut (objects objects' : List ℕ) (n x d total k : ℕ) : Type 0 where
  pub type : object_word objects' n type_word ≡ x
  pub descriptor : object_word objects' n descriptor_word ≡ d
  pub first : object_word objects' n first_word ≡ total
  pub count : object_word objects' n count_word ≡ k
  pub below : (i : ℕ) → i < object_span * n → get_or objects' i 0 ≡ get_or objects i 0
  pub size : length objects' ≡ length objects
