-- The pinned state, computed from its bytes; and the laws at it: words that stand where the layout says.
use Prim.Native.Nat.{ℕ}
use mathlib.Core.Path.{◌≡◌, refl}
use mathlib.Core.Bool.{true, false}
use mathlib.Core.Option.{none, some}
use mathlib.Core.List.{List, [], ◌∷◌}
use Rattle.scope.specs.Sections.{empty_library}
use Rattle.scope.specs.Judging.{Judged, accepted, rejected}
use Rattle.scope.specs.Machine.{Machine}
use Rattle.scope.specs.Running.{Ending, spent, done, trapped, wrong, Trial, trial_run}
use Rattle.scope.specs.Memory.{StateWords, state_words}
use Rattle.scope.proofs.Computes.{computes}
use Rattle.facts_states.specs.Pinned.{section, body, words}

-- a run that is spent after so many steps, with the words of its state
pub data SpentWith : Judged Trial → ℕ → StateWords → Type 0 where
  spent_with : {t : Trial} {steps : ℕ} {m : Machine} {w : StateWords} → t.ending ≡ spent steps m → state_words body m ≡ w → SpentWith (accepted t) steps w

pub pinned-state : SpentWith (trial_run empty_library section body 2 16) 16 words
unfolding computes
pinned-state = spent_with refl refl
