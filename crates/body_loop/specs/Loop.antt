-- What all instructions of a body come to, by document 01's rules over what the words say.
use Rattle.std.specs.Prelude.{ℕ, ◌+◌, ◌≤◌, ◌≡◌, false, List, length}
use Rattle.scope.specs.Told.{no_at}
use Rattle.std.specs.Prelude.{Result, Ok, Err}
use Rattle.scope.specs.declared.Refused.{Refused}
use Rattle.scope.specs.Sizes.{most_bytes, most_types}
use Rattle.scope.specs.Reading.{Read, got, refused}
use Rattle.scope.specs.Bodies.{Code, judge_from}
use Rattle.body_numeric.specs.Entries.{Tabled}
use Rattle.body_state.specs.declared.Check.{Check}
use Rattle.body_state.specs.declared.Scene.{Scene}
use Rattle.body_state.specs.State.{context_at, state_at, Upright, Stamped}

-- in the function's own frame, with no operand
abbrev pub begin : Check
begin = record { depth = 0; base = 0; height = 0; dead = false }

pub record Begun (work : List ℕ) (k : Scene) (s : List ℕ) (at : ℕ) : Type 0 where
  pub upright : Upright work k.locals begin
  pub stamped : Stamped work k.locals 0 at
  pub few : k.types ≤ most_types
  pub inside : at ≤ length s
  pub short : length s ≤ most_bytes

-- with the table of numeric codes at hand
pub record Ready (table work : List ℕ) (k : Scene) (s : List ℕ) (at : ℕ) : Type 0 where
  pub tabled : Tabled table
  pub begun : Begun work k s at

-- so many instructions before, and those that were read
abbrev pub ended_is : ℕ → Read Code → Result (ℕ × ℕ) Refused
ended_is before (got code stop) = Ok ((before + length code), stop)
ended_is before (refused n p) = Err (no_at n p)

pub record JudgedFrom (rows codes work work' : List ℕ) (k : Scene) (s : List ℕ) (at : ℕ) (r : Result (ℕ × ℕ) Refused) : Type 0 where
  pub answer : r ≡ ended_is 0 (judge_from (length s) (context_at rows codes work k) (state_at work k.locals begin) s at)
  pub size : length work' ≡ length work
