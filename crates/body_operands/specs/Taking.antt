-- What taking operands from the scratch's stack answers, by document 01's rules over what the words say.
use Rattle.std.specs.Prelude.{ℕ, List}
use Rattle.scope.specs.BodyRules.{Ruled, allowed, fault, and_ruled}
use Rattle.scope.specs.Bodies.{Operand, Taken}
use Rattle.body_state.specs.State.{stack}
use Rattle.body_operands.specs.declared.Left.{Left}
use Rattle.body_operands.specs.declared.Left

-- what is left, where what was taken is of no more use
abbrev pub left_in : Ruled Taken → Ruled (List Operand)
left_in t = and_ruled t (λ u. allowed u.left)

abbrev pub left_of : List ℕ → ℕ → Left → Ruled (List Operand)
left_of work base (Left.TheVariants.Is h) = allowed (stack work base h)
left_of work base (Left.TheVariants.Fault n) = fault n
