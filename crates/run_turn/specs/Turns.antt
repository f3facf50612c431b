-- What comes after a step.
use Rattle.std.specs.Prelude.{ℕ, ◌+◌}
use Rattle.run_state.specs.declared.Stage.{Stage}
use Rattle.run_state.specs.declared.Stepped.{Stepped}
use Rattle.run_state.specs.declared.Stepped
use Rattle.run_turn.specs.declared.Ending
use Rattle.run_turn.specs.declared.Turn.{Turn}
use Rattle.run_turn.specs.declared.Turn

-- a trap leaves the run where it stood
abbrev pub turn_of : Stepped → Stage → ℕ → Turn
turn_of (Stepped.TheVariants.Goes later) st steps = Turn.TheVariants.On later (steps + 1)
turn_of (Stepped.TheVariants.Ends later) st steps = Turn.TheVariants.Over (Ending.TheVariants.Done later (steps + 1))
turn_of (Stepped.TheVariants.Traps number) st steps = Turn.TheVariants.Over (Ending.TheVariants.Trapped number st (steps + 1))
turn_of Stepped.TheVariants.Astray st steps = Turn.TheVariants.Over Ending.TheVariants.Astray
