-- The verdict on a library and an add-on: the library's types are judged first, then the add-on's with those before them.
use Rattle.std.specs.Prelude.{ℕ, ◌+◌, ◌≤◌, ◌≡◌, List, length, replicate}
use Rattle.std.specs.Prelude.{Result}
use Rattle.scope.specs.Told.{no_in}
use Rattle.std.specs.Prelude.{Result, Ok, Err}
use Rattle.scope.specs.declared.Rejected.{Rejected}
use Rattle.scope.specs.declared.Refused.{Refused}
use Rattle.scope.specs.Layout.{rows_size, codes_size}
use Rattle.scope.specs.Reading.{Read, got, refused}
use Rattle.scope.specs.Lists.{joined}
use Rattle.scope.specs.Syntax.{Group, Types, types_of}
use Rattle.scope.specs.Sections.{read_after}
use Rattle.scope.specs.Judging.{Judged, accepted, rejected, judge_types, Joined, judge_joined}
use Rattle.scope.specs.Memory.{filled, joined_rows, joined_shared, joined_codes}
use Rattle.scope.specs.declared.Place.{Place}
use Rattle.type_table.specs.View.{view, both_codes}
use Rattle.type_table.proofs.Puts.{Puts}
use Rattle.type_span.specs.Span.{Beside}
use Rattle.type_numbering.specs.Ranges.{Numbered}
use Rattle.type_hierarchy.specs.Ranged.{Ranged}
use Rattle.section_judge.specs.Verdict.{ruled_is, judge_from}
use Rattle.section_reader.specs.Whole.{Enough, SectionPut}

-- how many types are the library's, and how many there are; or the refusal
abbrev pub joined_is : Judged Joined → Result (ℕ × ℕ) Rejected
joined_is (accepted j) = Ok (j.before, (length j.types))
joined_is (rejected n p) = Err (no_in n p)

-- the count of all of them comes after the library's
abbrev pub two_of : ℕ → Result ℕ Rejected → Result (ℕ × ℕ) Rejected
two_of before (Ok count) = Ok (before, count)
two_of before (Err why) = Err why

-- a section that was read after so many types, its bytes in such an input, and the verdict on its own types as the table has them
abbrev pub after_is : (ℕ → Place) → Types → ℕ → Read (List Group) → Result ℕ Rejected
after_is input ts before (got gs end) = ruled_is (judge_from before ts (before + length (joined gs)))
after_is input ts before (refused n p) = Err (no_in n (input p))

-- the rows as they were read, and the rows that are left: the same, but that accepted types have their ranges, all that stand there
pub record AfterJudged (input : ℕ → Place) (s : List ℕ) (before base : ℕ) (rows rows' mine mine' both : List ℕ) (r : Result ℕ Rejected) : Type 0 where
  pub read : Result ℕ Refused
  pub placed : List ℕ
  pub put : SectionPut (read_after before s) before base rows placed mine mine' read
  pub answer : r ≡ after_is input (view placed both) before (read_after before s)
  pub rows_kept : length rows' ≡ length rows
  pub numbered : (gs : List Group) (end n : ℕ) → read_after before s ≡ got gs end → r ≡ Ok n → Numbered (before + length (joined gs)) both placed rows'
  pub ranged : (n : ℕ) → r ≡ Ok n → Ranged rows' both

-- lent memory of its sizes, the rows all zero
pub record Ready (rows shared codes : List ℕ) : Type 0 where
  pub rows_zero : rows ≡ replicate (length rows) 0
  pub rows_enough : rows_size ≤ length rows
  pub shared_enough : codes_size ≤ length shared
  pub codes_enough : codes_size ≤ length codes

-- where the add-on is read: after a library's types, which are accepted and have their ranges
pub record Opened (before : ℕ) (rows shared codes : List ℕ) : Type 0 where
  pub enough : Enough rows codes before 0
  pub library : List ℕ
  pub gs : List Group
  pub end : ℕ
  pub read : read_after 0 library ≡ got gs end
  pub fine : judge_types (types_of (joined gs)) (length (joined gs)) ≡ accepted before
  pub many : before ≡ length (joined gs)
  pub room : ℕ
  pub own : List ℕ
  pub placed : List ℕ
  pub answer : Result ℕ Refused
  pub put : SectionPut (read_after 0 library) 0 codes_size (replicate room 0) placed own shared answer
  pub beside : Beside before placed rows

-- the table stands: its rows and nothing after them, and the codes of each section first in a buffer that may hold anything beyond
pub record Stands (rows shared codes rows' shared' codes' : List ℕ) (j : Joined) : Type 0 where
  pub rows_is : rows' ≡ filled rows (joined_rows j)
  pub shared_put : Puts shared shared' 0 (joined_shared j)
  pub codes_put : Puts codes codes' 0 (joined_codes j)

pub record BothJudged (library addon rows shared codes rows' shared' codes' : List ℕ) (r : Result (ℕ × ℕ) Rejected) : Type 0 where
  pub answer : r ≡ joined_is (judge_joined library addon)
  pub rows_kept : length rows' ≡ length rows
  pub shared_kept : length shared' ≡ length shared
  pub codes_kept : length codes' ≡ length codes
  pub stands : (j : Joined) → judge_joined library addon ≡ accepted j → Stands rows shared codes rows' shared' codes' j
  pub ranged : (j : Joined) → judge_joined library addon ≡ accepted j → Ranged rows' (both_codes shared' codes')
