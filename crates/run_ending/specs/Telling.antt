-- How a run ended, in the words of the answer.
use Rattle.std.specs.Prelude.{ℕ}
use Rattle.scope.specs.declared.Ran.{Ran}
use Rattle.scope.specs.declared.Ran
use Rattle.run_turn.specs.declared.Ending.{Ending}
use Rattle.run_turn.specs.declared.Ending

abbrev pub tell_of : ℕ → Ending → Ran
tell_of first (Ending.TheVariants.Done st steps) = Ran.TheVariants.Done steps st.height
tell_of first (Ending.TheVariants.Trapped number st steps) = Ran.TheVariants.Trapped number st.place steps
tell_of first (Ending.TheVariants.Spent st steps) = Ran.TheVariants.Spent steps
tell_of first Ending.TheVariants.Astray = Ran.TheVariants.Trapped 0 first 0
