-- What it is that a plan follows the rule of an instruction that looks at the locals alone, and where it looks at their
-- types alone.
use Rattle.std.specs.Prelude.{ℕ, ◌≡◌, Bool, List}
use Rattle.scope.specs.Syntax.{Val, Types}
use Rattle.scope.specs.Instructions.{Op}
use Rattle.scope.specs.BodyRules.{plan_of}
use Rattle.body_state.specs.declared.Planned.{Planned}
use Rattle.body_state.specs.State.{planned_of}
use Rattle.body_plan_parts.specs.Planning.{context_on}

-- their types and which of them are set
pub record Uses (locals : List Val) (is_set : List Bool) (o : Op) (r : Planned) : Type 0 where
  pub is : (codes : List ℕ) (ts : Types) (count : ℕ) (results : List Val) (labels : List (List Val)) → planned_of codes r
      ≡ plan_of (context_on ts count locals results) (record { labels = labels; is_set = is_set }) o

-- their types
pub record Sets (locals : List Val) (o : Op) (r : Planned) : Type 0 where
  pub is : (is_set : List Bool) → Uses locals is_set o r
