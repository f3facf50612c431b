-- The ending of a run in lent memory, as that of the written machine's run.
use Rattle.std.specs.Prelude.{ℕ, List}
use Rattle.scope.specs.Running as running
use Rattle.scope.specs.Running.{done, trapped, spent, wrong}
use Rattle.run_state.specs.declared.Stage.{Stage}
use Rattle.run_state.specs.Machines.{Words, machine_at, start_stage}
use Rattle.run_turn.specs.declared.Ending.{Ending}
use Rattle.run_turn.specs.declared.Ending

abbrev pub stage_of : ℕ → Ending → Stage
stage_of first (Ending.TheVariants.Done st steps) = st
stage_of first (Ending.TheVariants.Trapped number st steps) = st
stage_of first (Ending.TheVariants.Spent st steps) = st
stage_of first Ending.TheVariants.Astray = start_stage first

unfoldable pub ending_at : List ℕ → ℕ → Words → ℕ → Ending → running.Ending
ending_at s count w first (Ending.TheVariants.Done st steps) = done steps (machine_at s count w st)
ending_at s count w first (Ending.TheVariants.Trapped number st steps) = trapped number steps (machine_at s count w st)
ending_at s count w first (Ending.TheVariants.Spent st steps) = spent steps (machine_at s count w st)
ending_at s count w first Ending.TheVariants.Astray = wrong 0 (machine_at s count w (start_stage first))
