-- The move of making an object, whatever lies above its fields on the stack.
use Rattle.std.specs.Prelude.{ℕ, ◌≤◌, ◌≡◌, List, length, drop}
use Rattle.scope.specs.Machine.{Machine, Program, make_given, make_default}
use Rattle.type_table.specs.View.{view, link_at}
use Rattle.run_objects.specs.Objects.{store_at, Kept}
use Rattle.run_state.specs.declared.Move.{Move}
use Rattle.run_state.specs.Moved.{MoveIs}

pub record MakesGiven (rows codes : List ℕ) (n total height taken x d : ℕ) (r : Move) : Type 0 where
  pub is : (p : Program) (m : Machine) (objects cells : List ℕ)
      → p.types ≡ view rows codes → length m.operands ≡ height → taken ≤ height → m.heap ≡ store_at objects cells n → Kept objects cells n total
      → MoveIs p codes m (make_given p m x (link_at d) (drop taken m.operands)) r

pub record MakesDefaults (rows codes : List ℕ) (n total taken x d : ℕ) (r : Move) : Type 0 where
  pub is : (p : Program) (m : Machine) (objects cells : List ℕ)
      → p.types ≡ view rows codes → taken ≤ length m.operands → m.heap ≡ store_at objects cells n → Kept objects cells n total
      → MoveIs p codes m (make_default p m x (link_at d) (drop taken m.operands)) r
