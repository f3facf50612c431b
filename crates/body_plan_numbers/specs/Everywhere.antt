-- Rules that look at nothing but their instruction.
use Rattle.std.specs.Prelude.{ℕ}
use Rattle.scope.specs.Instructions.{Op}
use Rattle.body_state.specs.declared.Planned.{Planned}
use Rattle.body_plan_parts.specs.Planning.{Anywhere}

-- The plan r is what the rule of an instruction says, in any body and over any number of types.
pub record Everywhere (o : Op) (r : Planned) : Type 0 where
  pub is : (count : ℕ) → Anywhere count o r

-- The same of a constant, whatever its bits.
pub record Constant (make : ℕ → Op) (r : Planned) : Type 0 where
  pub is : (n : ℕ) → Everywhere (make n) r
