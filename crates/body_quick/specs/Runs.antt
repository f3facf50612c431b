-- What a run of instructions that are told leaves to be judged: what was to be judged before it, with those instructions counted.
use Rattle.std.specs.Prelude.{ℕ, ◌≤◌, ◌≡◌, List, length}
use Rattle.scope.specs.Sizes.{most_bytes}
use Rattle.body_numeric.specs.Entries.{Tabled}
use Rattle.body_state.specs.declared.Scene.{Scene}
use Rattle.body_state.specs.State.{Stamped}
use Rattle.body_quick_read.specs.Items.{ByteOr}
use Rattle.body_progress.specs.Standing.{Stands}
use Rattle.body_progress.specs.Counted.{judged_on, Running}
use Rattle.body_progress.specs.declared.Progress.{Progress}

-- what is asked of the instruction at `at`, whose first byte is b, or 256 past the end
pub record Facing (table : List ℕ) (b : ℕ) (s : List ℕ) (at : ℕ) (work : List ℕ) (count depth base top dead : ℕ) : Type 0 where
  pub tabled : Tabled table
  pub byte : ByteOr s at b
  pub stands : Stands work count depth base top dead

-- what is asked of the instruction at `at`, whatever it is
pub record Standing (table : List ℕ) (at : ℕ) (work : List ℕ) (count depth base top dead : ℕ) : Type 0 where
  pub tabled : Tabled table
  pub stands : Stands work count depth base top dead
  pub stamped : Stamped work count depth at
  pub early : at ≤ most_bytes

pub record Ready (table work : List ℕ) (k : Scene) (s : List ℕ) (r : Progress) : Type 0 where
  pub tabled : Tabled table
  pub running : Running work k s r
  pub short : length s ≤ most_bytes

pub record Ran (rows codes work work' : List ℕ) (k : Scene) (s : List ℕ) (from r : Progress) : Type 0 where
  pub same : judged_on rows codes k s work from ≡ judged_on rows codes k s work' r
  pub running : Running work' k s r
  pub further : from.count ≤ r.count
  pub size : length work' ≡ length work
