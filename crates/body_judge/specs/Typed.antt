-- What judging a body against the table of an accepted section comes to, part by part, by document 01's definitions.
use Rattle.std.specs.Prelude.{ℕ, ◌≤◌, ◌≡◌, cond, List, length, replicate, eqb, ltb}
use Rattle.scope.specs.Told.{no_in}
use Rattle.std.specs.Prelude.{Result, Ok, Err}
use Rattle.scope.specs.declared.Rejected.{Rejected}
use Rattle.std.specs.Prelude.{Result, Ok, Err}
use Rattle.scope.specs.declared.Refused.{Refused}
use Rattle.scope.specs.Sizes.{most_bytes, most_types, most_each}
use Rattle.scope.specs.Layout.{work_size}
use Rattle.scope.specs.Refusals.{oversize, left_over, not_a_function}
use Rattle.scope.specs.Reading.{given}
use Rattle.scope.specs.Syntax.{Val, func, Definition, types_of}
use Rattle.scope.specs.Judging.{plain, Judged, rejected}
use Rattle.scope.specs.Bodies.{function_of, Body, instructions, body_at, judged_of}
use Rattle.scope.specs.Answers.{verdict_of}
use Rattle.type_table.specs.View.{view}

-- the count of instructions where nothing follows the last of them, else 5 at the first byte that is left
abbrev pub finished_as : List ℕ → Result (ℕ × ℕ) Refused → Result ℕ Rejected
finished_as s (Ok (count, stop)) =
    cond (eqb stop (length s)) (Ok count) (Err (no_in left_over (plain stop)))
finished_as s (Err why) = Err (no_in why.number (plain why.at))

-- the scratch is wiped and has its size
pub record Fresh (work : List ℕ) : Type 0 where
  pub zero : work ≡ replicate (length work) 0
  pub room : work_size ≤ length work

-- the table says no more types than there may be, and a function of the number has no more parameters
pub record Sized (rows codes work : List ℕ) (types x : ℕ) : Type 0 where
  pub fresh : Fresh work
  pub known : types ≤ most_types
  pub few : (ps rs : List Val) → (view rows codes x).form ≡ func ps rs → length ps ≤ most_each

pub record Typing (rows codes work s : List ℕ) (types x : ℕ) : Type 0 where
  pub sized : Sized rows codes work types x
  pub short : length s ≤ most_bytes

-- the verdict on a body against the types of an accepted section (scope's judge_body)

unfoldable pub typed_on : List Definition → List ℕ → ℕ → Judged Body
typed_on ds s x = given (function_of (types_of ds x).form) (rejected not_a_function (plain 0)) (λ f. judged_of (body_at ds f s))

unfoldable pub sized_on : List Definition → List ℕ → ℕ → Judged Body
sized_on ds s x = cond (ltb most_bytes (length s)) (rejected oversize (plain 0)) (typed_on ds s x)

-- where the table says these types, the answer is the verdict
pub record TypedJudged (rows codes work work' s : List ℕ) (types x : ℕ) (r : Result ℕ Rejected) : Type 0 where
  pub answer : (ds : List Definition) → view rows codes ≡ types_of ds → length ds ≡ types → r ≡ verdict_of instructions (typed_on ds s x)
  pub size : length work' ≡ length work

pub record SizedJudged (rows codes work work' s : List ℕ) (types x : ℕ) (r : Result ℕ Rejected) : Type 0 where
  pub answer : (ds : List Definition) → view rows codes ≡ types_of ds → length ds ≡ types → r ≡ verdict_of instructions (sized_on ds s x)
  pub size : length work' ≡ length work
