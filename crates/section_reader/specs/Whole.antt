-- What the reader of a section answers and leaves in the table, by the definitions of document 01.
use Rattle.std.specs.Prelude.{ℕ, ◌+◌, ◌*◌, ◌≤◌, ◌≡◌, List, map, length}
use Rattle.scope.specs.Told.{no_at, told}
use Rattle.std.specs.Prelude.{Result, Ok, Err}
use Rattle.scope.specs.declared.Refused.{Refused}
use Rattle.scope.specs.Reading.{Read, got, refused, Reader, then}
use Rattle.scope.specs.Numbers.{u32}
use Rattle.scope.specs.Lists.{joined}
use Rattle.scope.specs.Syntax.{Definition, Group}
use Rattle.scope.specs.Sections.{groups_at, ended}
use Rattle.scope.specs.Layout.{row_span, rows_size, codes_size}
use Rattle.scope.specs.Sizes.{most_types}
use Rattle.type_table.specs.View.{rows_of, codes_of}
use Rattle.type_table.proofs.Puts.{Puts}
use Rattle.section_definition.specs.Rows.{low}
use Rattle.section_forms.specs.Reads.{Room}
use Rattle.section_group.specs.declared.Group as told_group
use Rattle.section_group.specs.Lent.{kept_all}

-- the definitions of groups, one group after the other
abbrev pub flat : Read (List Group) → Read (List Definition)
flat (got gs next) = got (joined gs) next
flat (refused n p) = refused n p

-- n groups after so many types
abbrev pub flat_at : ℕ → ℕ → Reader (List Definition)
flat_at n before s at = flat (groups_at n before s at)

-- n groups, and then nothing is left over
abbrev pub ended_at : ℕ → ℕ → List ℕ → ℕ → Read (List Group)
ended_at n before s at = then (groups_at n before s at) (ended s)

-- the count of groups, then the groups
abbrev pub counted_at : ℕ → List ℕ → Read (List Group)
counted_at before s = then (u32 s 0) (λ n next. ended_at n before s next)

-- buffers of their sizes; the types and the places of codes before
pub record Enough (rows codes : List ℕ) (before base : ℕ) : Type 0 where
  pub rows_enough : rows_size ≤ length rows
  pub codes_enough : codes_size ≤ length codes
  pub few : before ≤ most_types
  pub near : base ≤ codes_size

-- what the reader of groups begins with: a row for each type that may be, and a code for each byte to come
pub record Begun (s rows codes : List ℕ) (at before base : ℕ) : Type 0 where
  pub room : Room s codes at 0
  pub few : before ≤ most_types
  pub near : base ≤ codes_size
  pub lines : row_span * most_types ≤ length rows

abbrev pub groups_of : ℕ → ℕ → List Definition → told_group.Group
groups_of before base ds = record { count = before + length ds; used = base + length (codes_of (kept_all ds)) }

abbrev pub groups_is : ℕ → ℕ → Read (List Definition) → Result (told_group.Group × ℕ) Refused
groups_is before base = told (groups_of before base)

-- the rows of groups from the row `before` on, and their codes from the lent codes' first on
pub record GroupsPut (n before base : ℕ) (s : List ℕ) (at : ℕ) (rows rows' codes codes' : List ℕ) (r : Result (told_group.Group × ℕ) Refused) : Type 0 where
  pub answer : r ≡ groups_is before base (flat_at n before s at)
  pub rows_put : (ds : List Definition) (next : ℕ) → flat_at n before s at ≡ got ds next → Puts rows rows' (row_span * before) (map low (rows_of base (kept_all ds)))
  pub codes_put : (ds : List Definition) (next : ℕ) → flat_at n before s at ≡ got ds next → Puts codes codes' 0 (codes_of (kept_all ds))
  pub rows_kept : length rows' ≡ length rows
  pub codes_kept : length codes' ≡ length codes

abbrev pub section_is : ℕ → Read (List Group) → Result ℕ Refused
section_is before (got gs end) = Ok (before + length (joined gs))
section_is before (refused n p) = Err (no_at n p)

-- the rows and the codes of a section that was read, from the row `before` and the lent codes' first on
pub record SectionPut (o : Read (List Group)) (before base : ℕ) (rows rows' codes codes' : List ℕ) (r : Result ℕ Refused) : Type 0 where
  pub answer : r ≡ section_is before o
  pub rows_put : (gs : List Group) (end : ℕ) → o ≡ got gs end → Puts rows rows' (row_span * before) (map low (rows_of base (kept_all (joined gs))))
  pub codes_put : (gs : List Group) (end : ℕ) → o ≡ got gs end → Puts codes codes' 0 (codes_of (kept_all (joined gs)))
  pub rows_kept : length rows' ≡ length rows
  pub codes_kept : length codes' ≡ length codes
