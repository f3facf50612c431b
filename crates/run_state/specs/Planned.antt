-- What is seen of a machine, and what it is to tell the move of an instruction from what is seen.
use Rattle.std.specs.Prelude.{ℕ, ◌≡◌, List, length, drop}
use Rattle.scope.specs.Told.{Maybe}
use Rattle.std.specs.Prelude.{None, Some}
use Rattle.scope.specs.Instructions.{Op}
use Rattle.scope.specs.Machine.{Value, Machine, Program, do_op}
use Rattle.type_table.specs.View.{view}
use Rattle.run_values.specs.Values.{held_from}
use Rattle.run_value.specs.declared.Value
use Rattle.run_value.specs.declared.Value.{Value as Carrier}
use Rattle.run_objects.specs.Objects.{store_at, Kept}
use Rattle.run_stack.specs.Pile.{top_of, head_of, pile}
use Rattle.run_state.specs.declared.Stage.{Stage}
use Rattle.run_state.specs.declared.Move.{Move}
use Rattle.run_state.specs.declared.Reference.{Reference}
use Rattle.run_state.specs.declared.Reference
use Rattle.run_state.specs.Moved.{MoveIs}

-- null or an object; a number is no reference
abbrev pub referring : Carrier → Reference
referring (Value.TheVariants.I32 n) = Reference.TheVariants.Wrong
referring (Value.TheVariants.I64 n) = Reference.TheVariants.Wrong
referring (Value.TheVariants.F32 x) = Reference.TheVariants.Wrong
referring (Value.TheVariants.F64 x) = Reference.TheVariants.Wrong
referring (Value.TheVariants.Nan32 n) = Reference.TheVariants.Wrong
referring (Value.TheVariants.Nan64 n) = Reference.TheVariants.Wrong
referring Value.TheVariants.Null = Reference.TheVariants.Null
referring (Value.TheVariants.Object o) = Reference.TheVariants.To o

unfoldable pub reference_at : Maybe Carrier → Reference
reference_at None = Reference.TheVariants.Wrong
reference_at (Some v) = referring v

-- the topmost of these operands
pub record Seen (vs : List Value) (t : Maybe Carrier) : Type 0 where
  pub is : top_of t ≡ head_of vs

-- the topmost operand, and the heap
pub record Knows (m : Machine) (first : Maybe Carrier) (objects cells : List ℕ) (n total : ℕ) : Type 0 where
  pub top : Seen m.operands first
  pub heap : m.heap ≡ store_at objects cells n
  pub kept : Kept objects cells n total

-- The move of an instruction, by what it looks at, since nothing else is read: the topmost operand,
pub record TopPlans (first : Maybe Carrier) (o : Op) (r : Move) : Type 0 where
  pub is : (p : Program) (codes : List ℕ) (m : Machine)
      → Seen m.operands first
      → MoveIs p codes m (do_op p m m.operands o) r

-- the two topmost,
pub record PairPlans (first second : Maybe Carrier) (o : Op) (r : Move) : Type 0 where
  pub is : (p : Program) (codes : List ℕ) (m : Machine)
      → Seen m.operands first → Seen (drop 1 m.operands) second
      → MoveIs p codes m (do_op p m m.operands o) r

-- locals,
pub record HeldPlans (locals : List ℕ) (count : ℕ) (o : Op) (r : Move) : Type 0 where
  pub is : (p : Program) (codes : List ℕ) (m : Machine)
      → m.locals ≡ held_from locals 0 count
      → MoveIs p codes m (do_op p m m.operands o) r

-- locals and the topmost operand,
pub record LocalPlans (locals : List ℕ) (count : ℕ) (first : Maybe Carrier) (o : Op) (r : Move) : Type 0 where
  pub is : (p : Program) (codes : List ℕ) (m : Machine)
      → m.locals ≡ held_from locals 0 count → Seen m.operands first
      → MoveIs p codes m (do_op p m m.operands o) r

-- objects and their fields,
pub record FieldPlans (objects cells : List ℕ) (n : ℕ) (first : Maybe Carrier) (o : Op) (r : Move) : Type 0 where
  pub is : (p : Program) (codes : List ℕ) (m : Machine) (total : ℕ)
      → Knows m first objects cells n total
      → MoveIs p codes m (do_op p m m.operands o) r

-- a field of an object under the topmost operand,
pub record SetPlans (objects cells : List ℕ) (n : ℕ) (first second : Maybe Carrier) (o : Op) (r : Move) : Type 0 where
  pub is : (p : Program) (codes : List ℕ) (m : Machine) (total : ℕ)
      → Knows m first objects cells n total → Seen (drop 1 m.operands) second
      → MoveIs p codes m (do_op p m m.operands o) r

-- the table, how many objects, cells and operands there are, and the topmost of these
pub record MakePlans (rows codes : List ℕ) (n total height : ℕ) (first : Maybe Carrier) (o : Op) (r : Move) : Type 0 where
  pub is : (p : Program) (m : Machine) (objects cells : List ℕ)
      → p.types ≡ view rows codes → length m.operands ≡ height → Knows m first objects cells n total
      → MoveIs p codes m (do_op p m m.operands o) r

-- the memory from which a machine's values are read
pub record Holds (m : Machine) (objects cells locals operands : List ℕ) (count : ℕ) (st : Stage) : Type 0 where
  pub heap : m.heap ≡ store_at objects cells st.objects
  pub values : m.operands ≡ pile operands st.base st.height
  pub held : m.locals ≡ held_from locals 0 count
  pub kept : Kept objects cells st.objects st.cells
