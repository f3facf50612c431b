-- A list read as codes is the list, each entry as its code: the two readers walk the same entries. So the codes of a form as it
-- is kept are those that its lists were read as.
use Prim.Native.Nat.{ℕ, zero, suc}
use mathlib.Core.Path.{◌≡◌, refl, sym, ap, ◌∙◌}
use mathlib.Core.Bool.{true, false}
use mathlib.Core.List.{List, ◌∷◌, map, map-map}
use lib.ListN.{length, length-map}
use Rattle.std.specs.Prelude.{Ok, Err}
use Rattle.scope.specs.declared.Refused.{Refused}
use Rattle.scope.specs.Sizes.{most_each}
use Rattle.scope.specs.Reading.{Read, got, refused, Reader, then, entries}
use Rattle.scope.specs.Numbers.{u32}
use Rattle.scope.specs.Syntax.{Val, Field, struct}
use Rattle.scope.specs.Sections.{val_at, field_at, few_at}
use Rattle.scope.specs.Memory.{val_code, field_code, form_codes}
use Rattle.scope.proofs.Impossible.{impossible}
use Rattle.scope.proofs.Told.{read_refused, value_is, place_is}
use Rattle.type_table.specs.Kept.{kept_val, kept_field, kept_form}
use Rattle.type_read.specs.Codes.{val_code_kept, field_code_kept}
use Rattle.section_forms.specs.Reads.{coding, code_at, entries_is}

module _ {A : Type 0} (one : Reader A) (code : A → ℕ) (coded : Reader ℕ) (same : (s : List ℕ) (at : ℕ) → coded s at ≡ coding code (one s at)) where
  entries-coded : (room n : ℕ) (s : List ℕ) (at : ℕ) → entries coded room n s at ≡ coding (map code) (entries one room n s at)
  unfolding entries
  entries-coded room zero s at = refl
  entries-coded zero (suc n) s at = refl
  entries-coded (suc room) (suc n) s at = go (coded s at) (one s at) (same s at) (λ next. entries-coded room n s next)
    where
      tail : (x : A) (o : Read (List A)) → then (coding (map code) o) (λ xs stop. got (code x ∷ xs) stop) ≡ coding (map code) (then o (λ xs stop. got (x ∷ xs) stop))
      tail x (got xs stop) = refl
      tail x (refused k p) = refl

      go : (c : Read ℕ) (o : Read A) → c ≡ coding code o → ((next : ℕ) → entries coded room n s next ≡ coding (map code) (entries one room n s next))
          → then c (λ x next. then (entries coded room n s next) (λ xs stop. got (x ∷ xs) stop))
          ≡ coding (map code) (then o (λ x next. then (entries one room n s next) (λ xs stop. got (x ∷ xs) stop)))
      go c (got x next) e later = rw (e, later next) (tail x (entries one room n s next))
      go c (refused k p) e later = rw e

  few_coded : (s : List ℕ) (at : ℕ) → few_at coded s at ≡ coding (map code) (few_at one s at)
  unfolding few_at
  few_coded s at = go (u32 s at)
    where
      go : (o : Read ℕ) → then o (λ n next. entries coded most_each n s next) ≡ coding (map code) (then o (λ n next. entries one most_each n s next))
      go (got n next) = entries-coded most_each n s next
      go (refused k p) = refl

pub fields_coded : (s : List ℕ) (at : ℕ) → few_at (code_at true) s at ≡ coding (map field_code_kept) (few_at field_at s at)
unfolding code_at
fields_coded = few_coded field_at field_code_kept (code_at true) (λ s at. refl)

pub vals_coded : (s : List ℕ) (at : ℕ) → few_at (code_at false) s at ≡ coding (map val_code_kept) (few_at val_at s at)
unfolding code_at
vals_coded = few_coded val_at val_code_kept (code_at false) (λ s at. refl)

-- the answer of few_at, taken apart

module _ {A : Type 0} (code : A → ℕ) where
  pub list_got : (o : Read (List A)) {n next : ℕ} → Ok (n, next) ≡ entries_is (coding (map code) o) → (xs : List A) × (o ≡ got xs next) × (n ≡ length xs)
  list_got (got xs m) p = (xs, ap (got xs) (place_is p refl), sym (value_is p refl) ∙ length-map xs code)
  list_got (refused k m) p = impossible cc

  pub list_refused : (o : Read (List A)) {no : Refused} → Err no ≡ entries_is (coding (map code) o) → o ≡ refused no.number no.at
  list_refused (got xs m) p = impossible cc
  list_refused (refused n m) p = read_refused p refl

-- a form's codes

pub field_codes : (fs : List Field) → form_codes (kept_form (struct fs)) ≡ map field_code_kept fs
unfolding field_code_kept
field_codes fs = map-map field_code kept_field fs

pub val_codes : (vs : List Val) → map val_code (map kept_val vs) ≡ map val_code_kept vs
unfolding val_code_kept
val_codes vs = map-map val_code kept_val vs
