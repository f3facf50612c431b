-- What it is to tell the move of a cast from what is seen of a machine.
use Rattle.std.specs.Prelude.{ℕ, ◌≡◌, List, drop}
use Rattle.scope.specs.Told.{Maybe}
use Rattle.scope.specs.Instructions.{Op}
use Rattle.scope.specs.Machine.{Machine, Program, do_op}
use Rattle.run_value.specs.declared.Value.{Value as Carrier}
use Rattle.type_table.specs.View.{view}
use Rattle.run_state.specs.declared.Move.{Move}
use Rattle.run_state.specs.Moved.{MoveIs}
use Rattle.run_state.specs.Planned.{Seen, Knows}

-- by type: the topmost operand is cast
pub record CastPlans (rows codes objects : List ℕ) (n : ℕ) (first : Maybe Carrier) (o : Op) (r : Move) : Type 0 where
  pub is : (p : Program) (m : Machine) (cells : List ℕ) (total : ℕ)
      → p.types ≡ view rows codes → Knows m first objects cells n total
      → MoveIs p codes m (do_op p m m.operands o) r

-- by descriptor: that is the topmost operand, and the one under it is cast
pub record DescriptorPlans (objects : List ℕ) (n : ℕ) (first second : Maybe Carrier) (o : Op) (r : Move) : Type 0 where
  pub is : (p : Program) (codes : List ℕ) (m : Machine) (cells : List ℕ) (total : ℕ)
      → Knows m first objects cells n total → Seen (drop 1 m.operands) second
      → MoveIs p codes m (do_op p m m.operands o) r
