-- Where the check stands, in the numbers of the quick path and in those of the general one; and what a lap leaves to be judged.
use Rattle.std.specs.Prelude.{ℕ, ◌+◌, ◌<◌, ◌≤◌, ◌≡◌, List, length}
use Rattle.scope.specs.Sizes.{most_frames, most_types, most_bytes}
use Rattle.scope.specs.Memory.{flag}
use Rattle.scope.specs.Reading.{Read, got, refused}
use Rattle.body_numeric.specs.Entries.{Tabled}
use Rattle.body_state.specs.declared.Check.{Check}
use Rattle.body_state.specs.declared.Scene.{Scene}
use Rattle.body_progress.specs.declared.Progress.{Progress}
use Rattle.body_progress.specs.Standing.{Ordered}
use Rattle.body_progress.specs.Counted.{judged_on, Running}
use Rattle.body_lap.specs.declared.Lap.{Lap}
use Rattle.body_lap.specs.declared.Lap

pub record Within (r : Progress) : Type 0 where
  pub deep : r.depth < most_frames
  pub ordered : Ordered r.base r.top

abbrev pub progress_of : ℕ → Check → ℕ → Progress
progress_of count st next = record { count = count; next = next; depth = st.depth; base = st.base; top = st.base + st.height; dead = flag st.dead }

pub record Lapping (table work : List ℕ) (k : Scene) (s : List ℕ) (r : Progress) : Type 0 where
  pub tabled : Tabled table
  pub running : Running work k s r
  pub few : k.types ≤ most_types
  pub short : length s ≤ most_bytes

abbrev pub lap_of : List ℕ → List ℕ → Scene → List ℕ → List ℕ → Lap → Read ℕ
lap_of rows codes k s work (Lap.TheVariants.Refused number place) = refused number place
lap_of rows codes k s work (Lap.TheVariants.Finished count next) = got count next
lap_of rows codes k s work (Lap.TheVariants.On r) = judged_on rows codes k s work r

pub record Lapped (rows codes work work' : List ℕ) (k : Scene) (s : List ℕ) (from : Progress) (r : Lap) : Type 0 where
  pub answer : judged_on rows codes k s work from ≡ lap_of rows codes k s work' r
  pub running : (to : Progress) → r ≡ Lap.TheVariants.On to → Running work' k s to
  pub further : (to : Progress) → r ≡ Lap.TheVariants.On to → from.count + 1 ≤ to.count
  pub size : length work' ≡ length work
