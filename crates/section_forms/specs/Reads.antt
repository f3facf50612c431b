-- What the readers of forms answer and leave in the table, by the definitions of document 01.
use Rattle.std.specs.Prelude.{ℕ, ◌+◌, ◌≤◌, ◌≡◌, Bool, true, false, List, length, Result}
use Rattle.scope.specs.Told.{told}
use Rattle.scope.specs.declared.Refused.{Refused}
use Rattle.scope.specs.Sizes.{most_bytes, most_each}
use Rattle.scope.specs.Reading.{Read, got, refused, Reader, then, entries}
use Rattle.scope.specs.Sections.{val_at, field_at, few_at}
use Rattle.scope.specs.Syntax.{Form, struct, func}
use Rattle.scope.specs.Memory.{form_codes}
use Rattle.type_table.specs.Kept.{kept_form}
use Rattle.type_table.proofs.Puts.{Puts}
use Rattle.type_read.specs.Codes.{val_code_kept, field_code_kept}
use Rattle.section_forms.specs.declared.Shape.{Shape}
use Rattle.section_forms.specs.declared.Shape

-- There is room for what follows: each code that was put took a byte of the section, and behind those there is a word for
-- each byte that is still to come.
pub record Room (s codes : List ℕ) (at used : ℕ) : Type 0 where
  pub behind : used ≤ at
  pub inside : at ≤ length s
  pub enough : used + length s ≤ at + length codes
  pub small : length s ≤ most_bytes

-- codes in place of what was read

abbrev pub itself : ℕ → ℕ
itself c = c

abbrev pub coding : {A B : Type 0} → (A → B) → Read A → Read B
coding f (got x next) = got (f x) next
coding f (refused n p) = refused n p

-- the code of a field, or of a value type
unfoldable pub code_at : Bool → Reader ℕ
code_at true s at = coding field_code_kept (field_at s at)
code_at false s at = coding val_code_kept (val_at s at)

abbrev pub entries_is : Read (List ℕ) → Result (ℕ × ℕ) Refused
entries_is = told length

pub record EntriesRead (one : Reader ℕ) (n : ℕ) (s : List ℕ) (at : ℕ) (codes codes' : List ℕ) (used : ℕ) (r : Result (ℕ × ℕ) Refused) : Type 0 where
  pub answer : r ≡ entries_is (entries one most_each n s at)
  pub memory : (xs : List ℕ) (next : ℕ) → entries one most_each n s at ≡ got xs next → Puts codes codes' used xs
  pub size : length codes' ≡ length codes

pub record FewRead (one : Reader ℕ) (s : List ℕ) (at : ℕ) (codes codes' : List ℕ) (used : ℕ) (r : Result (ℕ × ℕ) Refused) : Type 0 where
  pub answer : r ≡ entries_is (few_at one s at)
  pub memory : (xs : List ℕ) (next : ℕ) → few_at one s at ≡ got xs next → Puts codes codes' used xs
  pub size : length codes' ≡ length codes

-- forms

abbrev pub shape_of : Form → Shape
shape_of (struct fs) = Shape.TheVariants.Struct (length fs)
shape_of (func ps rs) = Shape.TheVariants.Func (length ps) (length rs)

abbrev pub form_is : Read Form → Result (Shape × ℕ) Refused
form_is = told shape_of

-- a reader of forms, and the codes that it leaves
pub record PartRead (one : Reader Form) (s : List ℕ) (at : ℕ) (codes codes' : List ℕ) (used : ℕ) (r : Result (Shape × ℕ) Refused) : Type 0 where
  pub answer : r ≡ form_is (one s at)
  pub memory : (f : Form) (next : ℕ) → one s at ≡ got f next → Puts codes codes' used (form_codes (kept_form f))
  pub size : length codes' ≡ length codes

abbrev pub struct_at : Reader Form
struct_at s at = then (few_at field_at s at) (λ fs next. got (struct fs) next)

abbrev pub func_at : Reader Form
func_at s at = then (few_at val_at s at) (λ ps next. then (few_at val_at s next) (λ rs end. got (func ps rs) end))
