-- What taking one operand from the scratch's stack answers, by document 01's rules over what the words say.
use Rattle.std.specs.Prelude.{ℕ, List, [], ◌∷◌}
use Rattle.scope.specs.BodyRules.{Ruled, allowed, fault}
use Rattle.scope.specs.Bodies.{Taken}
use Rattle.body_state.specs.State.{operand_at_code, stack}
use Rattle.body_take.specs.declared.Take.{Take}
use Rattle.body_take.specs.declared.Take

-- one operand, and what is left of the frame's
abbrev pub took_of : List ℕ → ℕ → Take → Ruled Taken
took_of work base (Take.TheVariants.Took o h) = allowed (record { taken = operand_at_code o ∷ []; left = stack work base h })
took_of work base (Take.TheVariants.Fault n) = fault n
