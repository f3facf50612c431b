-- What it takes to make an object in a run's memory, and what it leaves: one more row, its cells, and its reference on top of
-- the operands.
use Rattle.std.specs.Prelude.{ℕ, ◌+◌, ◌≤◌, ◌<◌, ◌≡◌, List, length}
use Rattle.scope.specs.Layout.{objects_size, operands_size}
use Rattle.scope.specs.Sizes.{most_operands, most_objects, most_cells}
use Rattle.scope.specs.Machine.{Value}
use Rattle.run_value.specs.declared.Value
use Rattle.run_values.specs.Values.{AllCanon}
use Rattle.run_cells.specs.Cells.{Filled}
use Rattle.run_objects.specs.Objects.{Kept}
use Rattle.run_heap.specs.Heap.{RowPut}
use Rattle.run_stack.specs.Pile.{Pushed}
use Rattle.run_state.specs.declared.Stage.{Stage}
use Rattle.run_state.specs.declared.Stepped.{Stepped}
use Rattle.run_state.specs.declared.Stepped

-- one more object, its cells and a reference to it are within the sizes
pub record PutRoom (objects operands : List ℕ) (st : Stage) (left k : ℕ) : Type 0 where
  pub object_room : objects_size ≤ length objects
  pub operand_room : operands_size ≤ length operands
  pub few : st.objects < most_objects
  pub most : st.cells + k ≤ most_cells
  pub low : st.base + left < most_operands

-- the stage after it
abbrev pub made_stage : Stage → ℕ → ℕ → Stage
made_stage st left k =
    record { place = st.place; objects = st.objects + 1; cells = st.cells + k; base = st.base; height = left + 1; depth = st.depth }

pub record PutMade (objects objects' operands operands' : List ℕ) (st : Stage) (left x d k : ℕ) (r : Stage) : Type 0 where
  pub later : r ≡ made_stage st left k
  pub row : RowPut objects objects' st.objects x d st.cells k
  pub pushed : Pushed operands operands' st.base left (Value.TheVariants.Object st.objects)

pub record Makable (objects cells operands : List ℕ) (st : Stage) (left k : ℕ) : Type 0 where
  pub kept : Kept objects cells st.objects st.cells
  pub room : operands_size ≤ length operands
  pub few : st.objects < most_objects
  pub most : st.cells + k ≤ most_cells
  pub high : st.base + left ≤ most_operands

-- and so are the values of which it is made
pub record MakableGiven (objects cells operands : List ℕ) (st : Stage) (left k : ℕ) : Type 0 where
  pub makable : Makable objects cells operands st left k
  pub above : AllCanon operands (st.base + (left + k))

-- the object stands in the heap, and its reference on the operands
pub record Made (objects objects' cells cells' operands operands' : List ℕ) (st : Stage) (left x d k : ℕ) (fields : List Value) : Type 0 where
  pub row : RowPut objects objects' st.objects x d st.cells k
  pub filled : Filled cells cells' st.cells k fields
  pub pushed : Pushed operands operands' st.base left (Value.TheVariants.Object st.objects)
  pub low : st.base + left < most_operands

pub record MadeIs (objects objects' cells cells' operands operands' : List ℕ) (st : Stage) (left x d k : ℕ) (fields : List Value) (r : Stepped) : Type 0 where
  pub stage : (r ≡ Stepped.TheVariants.Astray → ⊥) → r ≡ Stepped.TheVariants.Goes (made_stage st left k)
  pub made : (r ≡ Stepped.TheVariants.Astray → ⊥) → Made objects objects' cells cells' operands operands' st left x d k fields
  pub canon : (r ≡ Stepped.TheVariants.Astray → ⊥) → AllCanon cells' (st.cells + k)
  pub astray : r ≡ Stepped.TheVariants.Astray → most_operands ≤ st.base + left
