-- How rows and codes grow: a row has sixteen words, definitions read later put their rows and codes after those of the
-- definitions before, and their codes start where those before end.
use Prim.Native.Nat.{ℕ, ◌+◌, ◌*◌}
use native.Mathlib.Nat.{add-zero, add_assoc}
use native.Mathlib.Omega.{arith}
use mathlib.Core.Path.{◌≡◌, refl, ap, ◌∙◌}
use mathlib.Core.List.{List, [], ◌∷◌, ◌++◌, append_assoc}
use lib.ListN.{length, length-append}
use Rattle.scope.specs.Layout.{row_span}
use Rattle.scope.specs.Syntax.{Form, struct, func, Definition}
use Rattle.scope.specs.Memory.{form_codes, form_words}
use Rattle.type_table.specs.View.{row, rows_of, codes_of}

form_length : (f : Form) → length (form_words f) ≡ 3
form_length (struct fs) = refl
form_length (func ps rs) = refl

pub row-length : (first : ℕ) (d : Definition) → length (row first d) ≡ row_span
unfolding row
row-length first d = length-append (form_words d.form) _ ∙ ap (λ n. n + 13) (form_length d.form)

pub rows-length : (first : ℕ) (ds : List Definition) → length (rows_of first ds) ≡ row_span * length ds
unfolding rows_of
rows-length first [] = refl
rows-length first (d ∷ ds) =
    let next = first + length (form_codes d.form) in
    length-append (row first d) (rows_of next ds) ∙ omega (arith, row-length first d, rows-length next ds)

pub codes-append : (ds es : List Definition) → codes_of (ds ++ es) ≡ codes_of ds ++ codes_of es
unfolding codes_of
codes-append [] es = refl
codes-append (d ∷ ds) es = ap (λ cs. form_codes d.form ++ cs) (codes-append ds es) ∙ simp append_assoc

pub rows_append : (first : ℕ) (ds es : List Definition) → rows_of first (ds ++ es) ≡ rows_of first ds ++ rows_of (first + length (codes_of ds)) es
unfolding rows_of codes_of
rows_append first [] es = simp add-zero
rows_append first (d ∷ ds) es =
    let codes = form_codes d.form in
    ap (λ rs. row first d ++ rs) (rows_append (first + length codes) ds es) ∙ simp (append_assoc, length-append, add_assoc)
