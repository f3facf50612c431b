-- "A library of no types (the byte 00) changes no answer but 14's sizes and the cases at 256 and 257 types, now 1,024 and 1,025."
-- First the definitions without a library, as document 01 has them, with any limit on the types; then what they say of today's with
-- the byte 00. 14 is about lent memory, and stands in facts_calls.
use Rattle.std.specs.Prelude.{ℕ, ◌-◌, ◌<◌, ◌≤◌, ◌≡◌, false, cond, List, [], length, take, drop, ltb}
use Rattle.scope.specs.Sizes.{most_bytes, most_types, most_budget}
use Rattle.scope.specs.Refusals.{oversize, out_of_reach, not_a_function}
use Rattle.scope.specs.Reading.{Read, got, refused, given}
use Rattle.scope.specs.Lists.{joined}
use Rattle.scope.specs.Syntax.{Definition, Group, types_of}
use Rattle.scope.specs.Sections.{empty_library}
use Rattle.scope.specs.Judging.{in_addon, plain, Judged, accepted, rejected, and_then, judge_types, Joined, judge_joined, Held, ask_type, part_of}
use Rattle.scope.specs.Bodies.{Body, function_of, judged_of, body_at, judge_body}
use Rattle.scope.specs.Running.{Trial, with_parameters, trial_run}
use Rattle.scope.specs.Memory.{starts_of, ends_of, rows_from, table_codes, joined_rows, joined_shared, joined_codes}
use Rattle.facts_sections.specs.Allowed.{Section}
use Rattle.facts_sections.specs.Limits.{read_under}

-- one section with a limit on its types; a type of it, and its bytes; a body of one of its types; a run of that

abbrev pub types_alone : Read (List Group) → Judged (List Definition)
types_alone (got gs end) = let ds = joined gs in and_then (judge_types (types_of ds) (length ds)) (λ all. accepted ds)
types_alone (refused n p) = rejected n (in_addon p)

unfoldable pub judge_alone : ℕ → List ℕ → Judged (List Definition)
judge_alone most s = types_alone (read_under most 0 s)

unfoldable pub ask_alone : ℕ → List ℕ → ℕ → Judged Definition
ask_alone most s x = and_then (judge_alone most s) (λ ds. cond (ltb x (length ds)) (accepted (types_of ds x)) (rejected out_of_reach (plain x)))

abbrev pub part_alone : List ℕ → Judged Definition → List ℕ
part_alone s (accepted d) = take (d.to - d.from) (drop d.from s)
part_alone s (rejected n p) = []

unfoldable pub body_alone : ℕ → List ℕ → List ℕ → ℕ → Judged Body
body_alone most section s x =
    and_then (judge_alone most section) (λ ds.
    let typed = given (function_of (types_of ds x).form) (rejected not_a_function (plain 0)) (λ f. judged_of (body_at ds f s)) in
    cond (ltb most_bytes (length s)) (rejected oversize (plain 0)) typed)

unfoldable pub run_alone : ℕ → List ℕ → List ℕ → ℕ → ℕ → Judged Trial
run_alone most section s x budget =
    and_then (body_alone most section s x) (λ b.
    let allowed = with_parameters b budget in
    cond (ltb most_budget budget) (rejected oversize (plain 0)) allowed)

-- no types before the section's own, and no definition that another section holds

abbrev pub own_types : List Definition → Joined
own_types ds = record { before = 0; types = ds }

abbrev pub own_type : Definition → Held
own_type d = record { of_library = false; definition = d }

-- with the byte 00 every answer about this section is the one without a library and with such a limit
pub record SameAnswers (most : ℕ) (section : List ℕ) : Type 0 where
  pub sections : judge_joined empty_library section ≡ and_then (judge_alone most section) (λ ds. accepted (own_types ds))
  pub types : (x : ℕ) → ask_type empty_library section x ≡ and_then (ask_alone most section x) (λ d. accepted (own_type d))
  pub parts : (x : ℕ) → part_of empty_library section (ask_type empty_library section x) ≡ part_alone section (ask_alone most section x)
  pub bodies : (s : List ℕ) (x : ℕ) → judge_body empty_library section s x ≡ body_alone most section s x
  pub runs : (s : List ℕ) (x budget : ℕ) → trial_run empty_library section s x budget ≡ run_alone most section s x budget

-- and so is every word of the table: no codes are the library's, and the add-on's are counted from 0 on
pub record SameTable (j : Joined) : Type 0 where
  pub rows : joined_rows j ≡ rows_from (starts_of j.types) (ends_of j.types) 0 0 j.types
  pub shared : joined_shared j ≡ []
  pub codes : joined_codes j ≡ table_codes j.types

-- document 01's limit
abbrev pub most_before : ℕ
most_before = 256

abbrev pub TooManyBefore : List ℕ → Type 0
TooManyBefore s = (p : ℕ) × (judge_alone most_before s ≡ rejected oversize (in_addon p))

-- of any section: its answers are those of before, or it was refused with 4
pub data Compared (s : List ℕ) : Type 0 where
  as_before : SameAnswers most_before s → Compared s
  too_many_before : TooManyBefore s → Compared s

pub record EmptyLibrary : Type 0 where
  -- the byte 00 by itself, with today's limit
  pub now : (s : List ℕ) → SameAnswers most_types s
  pub words : (s : List ℕ) (j : Joined) → judge_joined empty_library s ≡ accepted j → SameTable j
  -- with document 01's limit: a section of at most 256 types has the answers of before, one of more was refused with 4, and of one
  -- that is no writing within the sizes one of the two is true
  pub few : (s : List ℕ) (gs : List Group) → Section 0 s gs → length (joined gs) ≤ most_before → SameAnswers most_before s
  pub many : (s : List ℕ) (gs : List Group) → Section 0 s gs → most_before < length (joined gs) → TooManyBefore s
  pub every : (s : List ℕ) → Compared s
