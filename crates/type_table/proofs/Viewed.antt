-- The table says its definitions: each row reads back as the definition it was made of, with the codes from its first on,
-- and rows of zero read as `blank`. Sixteen words are a row, so the view of what follows a row is the view one number on;
-- the codes read so far become the codes before.
use Prim.Native.Nat.{ℕ, zero, suc, ◌+◌, ◌-◌, ◌*◌, ◌≤◌}
use native.Mathlib.Omega.{arith}
use mathlib.Core.Path.{◌≡◌, refl, sym, ap, ap₂, ◌∙◌, fun_ext}
use mathlib.Core.Bool.{Bool, true, false}
use mathlib.Core.Option.{Option, none, some}
use mathlib.Core.List.{List, [], ◌∷◌, ◌++◌, map, append_assoc}
use lib.ListN.{length, get_or, replicate, length-append, length-map}
use lib.Seq.{get_or_at, get_or-append-add}
use lib.Dec.{eqb}
use borrow.Author.Tests.{ne_eqb}
use Rattle.scope.specs.Layout.{row_span}
use Rattle.scope.specs.Lists.{as_list}
use Rattle.scope.specs.Syntax.{Form, struct, func, Definition, types_of, blank, first_of}
use Rattle.scope.specs.Memory.{val_code, field_code, form_codes, form_words, flag, or_zero}
use Rattle.type_table.specs.RowWords.{struct_form, func_form}
use Rattle.type_table.specs.View.{link_at, codes_at, val_at_code, field_at_code, form_at_words, word_of, view, further_of, row, rows_of, codes_of, no_range}
use Rattle.type_table.proofs.CodesBack.{val_code_lem, field_code_lem}
use Rattle.type_table.proofs.Growing.{row-length}
use Rattle.type_table.proofs.AtMost.{SupersAtMost, first_few, later_few, two_links}

-- codes

codes_back : {A : Type 0} (f : ℕ → A) (code : A → ℕ) → ((a : A) → f (code a) ≡ a)
    → (xs : List A) (pre post : List ℕ) (at : ℕ) → length pre ≡ at
    → codes_at f (pre ++ (map code xs ++ post)) at (length xs) ≡ xs
unfolding codes_at
codes_back f code back [] pre post at h = refl
codes_back f code back (x ∷ xs) pre post at h =
    let one : f (get_or (pre ++ (code x ∷ (map code xs ++ post))) at 0) ≡ x = rw (get_or_at pre (code x) (map code xs ++ post) 0 at h) (back x) in
    let more = codes_back f code back xs (pre ++ (code x ∷ [])) post (at + 1) (simp length-append (omega arith)) in
    ap₂ ◌∷◌ one (simp append_assoc at more)

form_back : (f : Form) (ws pre post : List ℕ) (first : ℕ) → length pre ≡ first
    → form_at_words (pre ++ (form_codes f ++ post)) (get_or (form_words f ++ ws) 0 0) first (get_or (form_words f ++ ws) 1 0) (get_or (form_words f ++ ws) 2 0) ≡ f
unfolding form_at_words
form_back (struct fs) ws pre post first h = ap struct (codes_back field_at_code field_code field_code_lem fs pre post first h)
form_back (func ps rs) ws pre post first h =
    let along = codes_back val_at_code val_code val_code_lem ps pre (map val_code rs ++ post) first h in
    let second = codes_back val_at_code val_code val_code_lem rs (pre ++ map val_code ps) post (first + length ps) (simp (length-append, length-map) (omega arith)) in
    ap₂ func (simp append_assoc along) (simp append_assoc (simp append_assoc at second))

-- words

link_back : (o : Option ℕ) → link_at (or_zero o) ≡ o
link_back none = refl
link_back (some x) =
    let given : eqb (x + 1) 0 ≡ false = ne_eqb (x + 1) 0 (λ e. omega arith) in
    let same : x + 1 - 1 ≡ x = omega arith in
    rw (given, same)

both_links : (supers : List ℕ) → length supers ≤ 2 → as_list (link_at (or_zero (first_of supers))) ++ as_list (link_at (or_zero (further_of supers))) ≡ supers
both_links supers few = rw (link_back (first_of supers), link_back (further_of supers)) (two_links supers few)

flag_back : (b : Bool) → eqb (flag b) 1 ≡ b
flag_back true = refl
flag_back false = refl

form_word_lem : (f : Form) (ws : List ℕ) (k : ℕ) → get_or (form_words f ++ ws) (3 + k) 0 ≡ get_or ws k 0
form_word_lem (struct fs) ws k = get_or-append-add (struct_form ∷ length fs ∷ 0 ∷ []) ws k 0
form_word_lem (func ps rs) ws k = get_or-append-add (func_form ∷ length ps ∷ length rs ∷ []) ws k 0

-- rows

pub row-view : (d : Definition) (rest pre post : List ℕ) (first : ℕ) → length pre ≡ first → length d.supers ≤ 2
    → view (row first d ++ rest) (pre ++ (form_codes d.form ++ post)) 0 ≡ d
unfolding row view
row-view d rest pre post first h few =
    let further = or_zero (further_of d.supers) ∷ (no_range ++ rest) in
    let ws : List ℕ =
    flag d.is_open ∷ or_zero (first_of d.supers) ∷ or_zero d.describes ∷ or_zero d.descriptor ∷ d.from ∷ d.to ∷ d.reach ∷ first ∷ further in
    let word = form_word_lem d.form ws in
    rw append_assoc (λ i.
    record {
      is_open = (ap (λ w. eqb w 1) (word 0) ∙ flag_back d.is_open) i;
      supers = (ap₂ (λ v w. as_list (link_at v) ++ as_list (link_at w)) (word 1) (word 8) ∙ both_links d.supers few) i;
      describes = (ap link_at (word 2) ∙ link_back d.describes) i;
      descriptor = (ap link_at (word 3) ∙ link_back d.descriptor) i;
      form = form_back d.form ws pre post _ (h ∙ sym (word 7)) i;
      from = word 4 i;
      to = word 5 i;
      reach = word 6 i;
    })

next_word : (r rest : List ℕ) (x k : ℕ) → length r ≡ row_span → word_of (r ++ rest) (suc x) k ≡ word_of rest x k
next_word r rest x k h =
    let place : row_span * suc x + k ≡ length r + (row_span * x + k) = omega arith in
    rw place (get_or-append-add r rest (row_span * x + k) 0)

pub next_view : (r rest codes : List ℕ) (x : ℕ) → length r ≡ row_span → view (r ++ rest) codes (suc x) ≡ view rest codes x
unfolding view
next_view r rest codes x h =
    let word : (k : ℕ) → word_of (r ++ rest) (suc x) k ≡ word_of rest x k = λ k. next_word r rest x k h in
    simp word

zero_word : (z k : ℕ) → ◌≡◌ {A = ℕ} (get_or (replicate z 0) k 0) 0
zero_word zero k = refl
zero_word (suc z) zero = refl
zero_word (suc z) (suc k) = zero_word z k

zero-view : (z : ℕ) (codes : List ℕ) (x : ℕ) → view (replicate z 0) codes x ≡ blank
unfolding view form_at_words codes_at
zero-view z codes x = simp (zero_word z)

-- the table

pub view_from : (ds : List Definition) (z : ℕ) (pre post : List ℕ) (first : ℕ) → length pre ≡ first → SupersAtMost 2 ds → (x : ℕ)
    → view (rows_of first ds ++ replicate z 0) (pre ++ (codes_of ds ++ post)) x ≡ types_of ds x
unfolding rows_of codes_of
view_from [] z pre post first h few x = zero-view z (pre ++ post) x
view_from (d ∷ ds) z pre post first h few zero =
    simp append_assoc (row-view d (rows_of (first + length (form_codes d.form)) ds ++ replicate z 0) pre (codes_of ds ++ post) first h (first_few few))
view_from (d ∷ ds) z pre post first h few (suc x) =
    let codes = form_codes d.form in
    let more = view_from ds z (pre ++ codes) post (first + length codes) (simp length-append (omega arith)) (later_few few) x in
    simp append_assoc (next_view (row first d) (rows_of (first + length codes) ds ++ replicate z 0) (pre ++ (codes ++ (codes_of ds ++ post))) x (row-length first d) ∙ (simp append_assoc at more))

pub view_is : (ds : List Definition) (z : ℕ) (post : List ℕ) → SupersAtMost 2 ds → view (rows_of 0 ds ++ replicate z 0) (codes_of ds ++ post) ≡ types_of ds
view_is ds z post few = fun_ext (view_from ds z [] post 0 refl few)
