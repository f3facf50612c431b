-- What the two instructions come to whose result depends on the reference that they take.
use Rattle.std.specs.Prelude.{ℕ, false, List, [], ◌∷◌}
use Rattle.std.proofs.Math.Option.{none}
use Rattle.scope.specs.Syntax.{nullable, defined}
use Rattle.scope.specs.BodyRules.{Context, value, any_reference, it_non_null, its_descriptor, Ruled}
use Rattle.scope.specs.Bodies.{Operand, State, Next, do_plan}

-- the state with one operand on top of those that are left
unfoldable pub with_top : State → Operand → List Operand → State
with_top st o os = record { frames = st.frames; operands = o ∷ os; dead = st.dead; is_set = st.is_set }

-- the plan of ref.as_non_null, done
unfoldable pub non_null_done : Context → State → Ruled Next
non_null_done c st = do_plan c st (record { wants = any_reference ∷ []; gives = it_non_null; marks = none; stops = false })

-- the plan of ref.get_desc x, whose descriptor is y
unfoldable pub descriptor_done : ℕ → ℕ → Context → State → Ruled Next
descriptor_done x y c st =
    do_plan c st (record { wants = value (nullable (defined x)) ∷ []; gives = its_descriptor x y; marks = none; stops = false })
