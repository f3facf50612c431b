-- What the readers of groups answer and leave in the part of the table that they are lent, by the definitions of document 01.
use Rattle.std.specs.Prelude.{ℕ, ◌+◌, ◌-◌, ◌*◌, ◌≤◌, ◌≡◌, cond, ltb, List, [], ◌∷◌, map, length}
use Rattle.std.specs.Prelude.{Result}
use Rattle.scope.specs.Told.{told}
use Rattle.scope.specs.declared.Refused.{Refused}
use Rattle.scope.specs.Layout.{row_span, codes_size}
use Rattle.scope.specs.Sizes.{most_types}
use Rattle.scope.specs.Refusals.{oversize}
use Rattle.scope.specs.Reading.{Read, got, refused, Reader, then, entries}
use Rattle.scope.specs.Numbers.{u32}
use Rattle.scope.specs.Syntax.{Definition}
use Rattle.scope.specs.Sections.{definition_at}
use Rattle.type_table.specs.Kept.{kept_definition}
use Rattle.type_table.specs.View.{rows_of, codes_of}
use Rattle.type_table.proofs.Puts.{Puts}
use Rattle.section_forms.specs.Reads.{Room}
use Rattle.section_definition.specs.Rows.{low}
use Rattle.section_group.specs.declared.Group.{Group}

-- The rest of the table from the group's first row and first code on: it has a row for each type and a code for each byte
-- that may still come. `used` places of both sections' codes are before it: the library's, and one for each byte at most.
pub record Lent (s rows codes : List ℕ) (at first used : ℕ) : Type 0 where
  pub room : Room s codes at 0
  pub behind : used ≤ codes_size + at
  pub few : first ≤ most_types
  pub lines : row_span * (most_types - first) ≤ length rows

-- n definitions of a group that reaches so far and whose first type has the number `first`
abbrev pub entries_at : ℕ → ℕ → ℕ → Reader (List Definition)
entries_at reach first n s at = entries (definition_at reach) (most_types - first) n s at

-- the two ways in which a group is written
abbrev pub several_at : ℕ → Reader (List Definition)
several_at first s at = then (u32 s at) (λ n next. entries_at (first + n) first n s next)

abbrev pub alone_at : ℕ → Reader (List Definition)
alone_at first s at = cond (ltb first most_types) (then (definition_at (first + 1) s at) (λ d next. got (d ∷ []) next)) (refused oversize at)

abbrev pub kept_all : List Definition → List Definition
kept_all ds = map kept_definition ds

abbrev pub group_of : ℕ → List Definition → Group
group_of used ds = record { count = length ds; used = used + length (codes_of (kept_all ds)) }

abbrev pub group_is : ℕ → Read (List Definition) → Result (Group × ℕ) Refused
group_is used = told (group_of used)

-- the rows of the definitions that were read, and their codes, each from the start of what was lent on
pub record GroupPut (one : Reader (List Definition)) (s : List ℕ) (at : ℕ) (rows rows' codes codes' : List ℕ) (used : ℕ) (r : Result (Group × ℕ) Refused) : Type 0 where
  pub answer : r ≡ group_is used (one s at)
  pub rows_put : (ds : List Definition) (next : ℕ) → one s at ≡ got ds next → Puts rows rows' 0 (map low (rows_of used (kept_all ds)))
  pub codes_put : (ds : List Definition) (next : ℕ) → one s at ≡ got ds next → Puts codes codes' 0 (codes_of (kept_all ds))
  pub rows_kept : length rows' ≡ length rows
  pub codes_kept : length codes' ≡ length codes
