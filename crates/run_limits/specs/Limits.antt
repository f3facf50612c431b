-- The sizes of a run's scratch, as `run_lent` of scope has them before those of the state.
use Rattle.std.specs.Prelude.{Bool, ◌&&◌, ℕ, List}
use Rattle.scope.specs.Layout.{work_size, ends_size}
use Rattle.scope.specs.Answers.{table_lent, holds}

abbrev pub scratch_lent : List ℕ → List ℕ → List ℕ → List ℕ → List ℕ → Bool
scratch_lent rows shared codes work ends = table_lent rows shared codes && holds work_size work && holds ends_size ends
