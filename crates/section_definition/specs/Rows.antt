-- What the reader of a definition answers and leaves in the table, by the definitions of document 01.
use Rattle.std.specs.Prelude.{ℕ, ◌+◌, ◌%◌, ◌≤◌, ◌≡◌, List, ◌∷◌, ◌++◌, map, length}
use Rattle.std.specs.Prelude.{Result}
use Rattle.scope.specs.Told.{told}
use Rattle.scope.specs.declared.Refused.{Refused}
use Rattle.scope.specs.Layout.{row_span, codes_size}
use Rattle.scope.specs.Reading.{Read, got}
use Rattle.scope.specs.Syntax.{Form, Definition}
use Rattle.scope.specs.Sections.{form_at, definition_at}
use Rattle.scope.specs.Memory.{form_codes, form_words}
use Rattle.lent_u16.specs.Words.{word_limit}
use Rattle.type_table.specs.Kept.{kept_form, kept_definition}
use Rattle.type_table.specs.View.{row, no_range}
use Rattle.type_table.proofs.Puts.{Puts}
use Rattle.section_forms.specs.Reads.{Room}
use Rattle.section_clauses.specs.declared.Front.{Front}

-- a word holds the lowest 16 bits of a number
abbrev pub low : ℕ → ℕ
low n = n % word_limit

-- the words of a row
abbrev pub row_low : ℕ → ℕ → ℕ → ℕ → ℕ → ℕ → ℕ → ℕ → ℕ → ℕ → ℕ → ℕ → List ℕ
row_low kind n results opens first described describing from to reach used further =
    map low (kind ∷ n ∷ results ∷ opens ∷ first ∷ described ∷ describing ∷ from ∷ to ∷ reach ∷ used ∷ further ∷ no_range)

-- the row of a form that ends at a place, by what was read before it
unfoldable pub row_of : ℕ → ℕ → ℕ → ℕ → ℕ → ℕ → ℕ → ℕ → Form → ℕ → List ℕ
row_of opens first described describing from reach used further f to =
    map low (form_words f ++ opens ∷ first ∷ described ∷ describing ∷ from ∷ to ∷ reach ∷ used ∷ further ∷ no_range)

-- both by what stands before the form

abbrev pub front_low : ℕ → ℕ → ℕ → Front → ℕ → ℕ → ℕ → ℕ → List ℕ
front_low kind n results x from to reach used =
    row_low kind n results x.head.opens x.head.supers.first x.clauses.described x.clauses.describing from to reach used x.head.supers.further

abbrev pub front_row : Front → ℕ → ℕ → ℕ → Form → ℕ → List ℕ
front_row x from reach used =
    row_of x.head.opens x.head.supers.first x.clauses.described x.clauses.describing from reach used x.head.supers.further

-- There is room for the row, and for codes in the lent part after those that fill it so far. `used` is the place of its first code
-- among both sections' codes: the add-on's places if the section is the library, and one for each byte of the section before.
pub record RowRoom (s rows codes : List ℕ) (at row used filled : ℕ) : Type 0 where
  pub room : Room s codes at filled
  pub behind : used ≤ codes_size + at
  pub line : row + row_span ≤ length rows

-- how far the part is filled by a form's codes
abbrev pub full : ℕ → Form → ℕ
full filled f = filled + length (form_codes (kept_form f))

abbrev pub formed_is : ℕ → Read Form → Result (ℕ × ℕ) Refused
formed_is filled = told (full filled)

-- a form that was read, with the row that is made of it
pub record FormedRead (made : Form → ℕ → List ℕ) (s : List ℕ) (at : ℕ) (rows rows' : List ℕ) (row : ℕ) (codes codes' : List ℕ) (filled : ℕ) (r : Result (ℕ × ℕ) Refused) : Type 0 where
  pub answer : r ≡ formed_is filled (form_at s at)
  pub row_put : (f : Form) (end : ℕ) → form_at s at ≡ got f end → Puts rows rows' row (made (kept_form f) end)
  pub codes_put : (f : Form) (end : ℕ) → form_at s at ≡ got f end → Puts codes codes' filled (form_codes (kept_form f))
  pub rows_kept : length rows' ≡ length rows
  pub codes_kept : length codes' ≡ length codes

abbrev pub full_by : ℕ → Definition → ℕ
full_by filled d = full filled d.form

abbrev pub definition_is : ℕ → Read Definition → Result (ℕ × ℕ) Refused
definition_is filled = told (full_by filled)

-- the definition's row, and its codes in the part before which the whole has `base` codes
pub record DefinitionPut (reach : ℕ) (s : List ℕ) (at : ℕ) (rows rows' : List ℕ) (line : ℕ) (codes codes' : List ℕ) (base filled : ℕ) (r : Result (ℕ × ℕ) Refused) : Type 0 where
  pub answer : r ≡ definition_is filled (definition_at reach s at)
  pub row_put : (d : Definition) (end : ℕ) → definition_at reach s at ≡ got d end → Puts rows rows' line (map low (row (base + filled) (kept_definition d)))
  pub codes_put : (d : Definition) (end : ℕ) → definition_at reach s at ≡ got d end → Puts codes codes' filled (form_codes (kept_form d.form))
  pub rows_kept : length rows' ≡ length rows
  pub codes_kept : length codes' ≡ length codes
