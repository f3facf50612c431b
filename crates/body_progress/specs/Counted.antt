-- What is still to be judged, with the instructions before it counted: the number of instructions stands for their list.
use Rattle.std.specs.Prelude.{ℕ, ◌+◌, ◌-◌, ◌≤◌, List, length}
use Rattle.scope.specs.Reading.{Read, got, refused}
use Rattle.scope.specs.Bodies.{Code, judge_from}
use Rattle.body_state.specs.declared.Scene.{Scene}
use Rattle.body_state.specs.State.{context_at, state_at, Stamped}
use Rattle.body_progress.specs.declared.Progress.{Progress}
use Rattle.body_progress.specs.Standing.{check_of, Stands}

-- so many instructions before, and those that were read
abbrev pub counted : ℕ → Read Code → Read ℕ
counted before (got code stop) = got (before + length code) stop
counted before (refused n p) = refused n p

-- what is still to be judged: there are no more instructions than bytes
abbrev pub judged_on : List ℕ → List ℕ → Scene → List ℕ → List ℕ → Progress → Read ℕ
judged_on rows codes k s work r =
    counted r.count (judge_from (length s - r.count) (context_at rows codes work k) (state_at work k.locals (check_of r.depth r.base r.top r.dead)) s r.next)

pub record Running (work : List ℕ) (k : Scene) (s : List ℕ) (r : Progress) : Type 0 where
  pub stands : Stands work k.locals r.depth r.base r.top r.dead
  pub stamped : Stamped work k.locals r.depth r.next
  pub inside : r.next ≤ length s
  pub fewer : r.count ≤ r.next
