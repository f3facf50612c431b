-- Where the check stands, in the numbers of the quick path: the operands are counted over all frames.
use Rattle.std.specs.Prelude.{ℕ, ◌-◌, ◌≤◌, List, eqb}
use Rattle.scope.specs.Sizes.{most_operands}
use Rattle.body_state.specs.declared.Check.{Check}
use Rattle.body_state.specs.State.{Upright}

-- the operands of all frames, and those below the innermost
pub record Ordered (base top : ℕ) : Type 0 where
  pub above : base ≤ top
  pub low : top ≤ most_operands

-- the numbers of the quick path, as the check has them
abbrev pub check_of : ℕ → ℕ → ℕ → ℕ → Check
check_of depth base top dead = record { depth = depth; base = base; height = top - base; dead = eqb dead 1 }

-- where the check stands
pub record Stands (work : List ℕ) (count depth base top dead : ℕ) : Type 0 where
  pub upright : Upright work count (check_of depth base top dead)
  pub ordered : Ordered base top
  pub flag : dead ≤ 1
