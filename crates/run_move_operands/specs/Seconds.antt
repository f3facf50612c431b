-- The operand under the topmost.
use Rattle.std.specs.Prelude.{ℕ, List, drop}
use Rattle.scope.specs.Told.{Maybe}
use Rattle.run_value.specs.declared.Value.{Value as Carrier}
use Rattle.run_stack.specs.Pile.{pile}
use Rattle.run_state.specs.Planned.{Seen}

pub record SecondIs (operands : List ℕ) (base height : ℕ) (r : Maybe Carrier) : Type 0 where
  pub seen : Seen (drop 1 (pile operands base height)) r
