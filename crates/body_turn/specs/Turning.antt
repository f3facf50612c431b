-- What one turn leaves to be judged: what was to be judged before it, with its instruction counted.
use Rattle.std.specs.Prelude.{ℕ, ◌+◌, ◌-◌, ◌<◌, ◌≤◌, ◌≡◌, List, length}
use Rattle.scope.specs.Sizes.{most_types}
use Rattle.scope.specs.Reading.{Read, got, refused}
use Rattle.scope.specs.Bodies.{judge_from}
use Rattle.body_state.specs.declared.Check.{Check}
use Rattle.body_state.specs.declared.Scene.{Scene}
use Rattle.body_state.specs.State.{context_at, state_at, Upright, Stamped}
use Rattle.body_step.specs.Stepping.{Standing}
use Rattle.body_progress.specs.Counted.{counted}
use Rattle.body_turn.specs.declared.Turn.{Turn}
use Rattle.body_turn.specs.declared.Turn

pub record Turning (table work : List ℕ) (k : Scene) (st : Check) (s : List ℕ) (at : ℕ) : Type 0 where
  pub standing : Standing table work k.locals st at
  pub few : k.types ≤ most_types

-- after n instructions, and `left` at most after this one
abbrev pub turned_on : List ℕ → List ℕ → Scene → List ℕ → List ℕ → ℕ → ℕ → Turn → Read ℕ
turned_on rows codes k s work n left (Turn.TheVariants.Refused number place) = refused number place
turned_on rows codes k s work n left (Turn.TheVariants.Finished next) = got (n + 1) next
turned_on rows codes k s work n left (Turn.TheVariants.On st next) = counted (n + 1) (judge_from left (context_at rows codes work k) (state_at work k.locals st) s next)

pub record Onward (work : List ℕ) (k : Scene) (s : List ℕ) (at : ℕ) (st : Check) (next : ℕ) : Type 0 where
  pub upright : Upright work k.locals st
  pub stamped : Stamped work k.locals st.depth next
  pub forward : at < next
  pub inside : next ≤ length s

pub record Turned (rows codes work work' : List ℕ) (k : Scene) (st : Check) (s : List ℕ) (at : ℕ) (r : Turn) : Type 0 where
  pub answer : (n left : ℕ) → length s ≤ at + left → counted n (judge_from left (context_at rows codes work k) (state_at work k.locals st) s at) ≡ turned_on rows codes k s work' n (left - 1) r
  pub onward : (st' : Check) (next : ℕ) → r ≡ Turn.TheVariants.On st' next → Onward work' k s at st' next
  pub size : length work' ≡ length work
