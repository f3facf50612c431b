-- What the words of a run's objects and cells say: a total reading of them as the store of scope's Machine.antt, in the
-- layout of scope's Memory.antt (objects_from, cell_values).
use Rattle.std.specs.Prelude.{ℕ, zero, suc, ◌+◌, ◌*◌, ◌<◌, ◌≤◌, ◌≡◌, List, get_or, length, set}
use Rattle.std.proofs.Math.Option.{Option, none, some}
use Rattle.std.proofs.Math.ListN.{get_elem?}
use Rattle.scope.specs.Told.{Maybe}
use Rattle.std.specs.Prelude.{None, Some}
use Rattle.scope.specs.Layout.{object_span, objects_size, cells_size}
use Rattle.scope.specs.Sizes.{most_objects, most_cells}
use Rattle.scope.specs.Machine.{Value, Object, Store, with_field}
use Rattle.lent_u16.specs.Words.{word_limit}
use Rattle.run_values.specs.Layout.{type_word, descriptor_word, first_word, count_word}
use Rattle.type_table.specs.View.{link_at}
use Rattle.type_table.specs.Answers.{link_is}
use Rattle.run_values.specs.Values.{numbered, values_from, AllCanon}
use Rattle.run_value.specs.declared.Value.{Value as Carrier}
use Rattle.run_value.specs.Carried.{decoded}

-- word k of object o
abbrev pub object_word : List ℕ → ℕ → ℕ → ℕ
object_word objects o k = get_or objects (object_span * o + k) 0

-- object o, were these its fields
abbrev pub object_with : List ℕ → ℕ → List Value → Object
object_with objects o fields =
    record { type = object_word objects o type_word; descriptor = link_at (object_word objects o descriptor_word); fields = fields }

unfoldable pub object_at : List ℕ → List ℕ → ℕ → Object
object_at objects cells o = object_with objects o (values_from cells (object_word objects o first_word) (object_word objects o count_word))

-- the first n objects
abbrev pub store_at : List ℕ → List ℕ → ℕ → Store
store_at objects cells n = numbered (object_at objects cells) 0 n

-- how many cells the first n objects have
unfoldable pub cells_below : List ℕ → ℕ → ℕ
cells_below objects zero = 0
cells_below objects (suc n) = cells_below objects n + object_word objects n count_word

-- the cells of n objects lie end to end, and fill the first `total`
pub record Packed (objects : List ℕ) (n total : ℕ) : Type 0 where
  pub starts : (o : ℕ) → o < n → object_word objects o first_word ≡ cells_below objects o
  pub ends : total ≡ cells_below objects n

-- what holds of the heap between two instructions
pub record Kept (objects cells : List ℕ) (n total : ℕ) : Type 0 where
  pub object_room : objects_size ≤ length objects
  pub cell_room : cells_size ≤ length cells
  pub few : n ≤ most_objects
  pub most : total ≤ most_cells
  pub packed : Packed objects n total
  pub canon : AllCanon cells total

-- questions

pub record TypeOf (objects : List ℕ) (o r : ℕ) : Type 0 where
  pub is : (cells : List ℕ) → (object_at objects cells o).type ≡ r
  pub small : r < word_limit

pub record DescriptorOf (objects : List ℕ) (o : ℕ) (r : Maybe ℕ) : Type 0 where
  pub is : (cells : List ℕ) → r ≡ link_is (object_at objects cells o).descriptor

pub record FieldCount (objects : List ℕ) (o r : ℕ) : Type 0 where
  pub is : (cells : List ℕ) → length (object_at objects cells o).fields ≡ r
  pub small : r < word_limit

abbrev pub held_option : Maybe Carrier → Option Value
held_option None = none
held_option (Some v) = some (decoded v)

pub record HeldField (objects cells : List ℕ) (o i : ℕ) (r : Maybe Carrier) : Type 0 where
  pub is : held_option r ≡ get_elem? (object_at objects cells o).fields i
  pub inside : (v : Carrier) → r ≡ Some v → i < length (object_at objects cells o).fields

-- a field that was set: that object has another value there, and no other object is changed
pub record FieldSet (objects cells cells' : List ℕ) (o i : ℕ) (v : Carrier) : Type 0 where
  pub store : (n total : ℕ) → Kept objects cells n total → o < n → i < length (object_at objects cells o).fields → store_at objects cells' n ≡ set (store_at objects cells n) o (with_field (object_at objects cells o) i (decoded v))
  pub kept : (n total : ℕ) → Kept objects cells n total → o < n → i < length (object_at objects cells o).fields → Kept objects cells' n total
  pub size : length cells' ≡ length cells
