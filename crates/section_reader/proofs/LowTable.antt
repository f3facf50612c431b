-- The rows of a section that was read are written as they are. A row's word is a form's kind, a count of at most 64, a
-- flag, a kept link of at most 4,096, a place of at most 32,768, a reach of at most 256 or the number of codes before it,
-- of at most 32,768: all below 65,536, so each word is its own lowest 16 bits.
use Prim.Native.Nat.{ℕ, ◌+◌, ◌≤◌, ◌<◌}
use mathlib.Core.Path.{◌≡◌, refl, ap₂}
use mathlib.Core.Bool.{Bool, true, false}
use mathlib.Core.Option.{Option, none, some}
use mathlib.Core.List.{List, [], ◌∷◌, ◌++◌, map}
use native.Mathlib.Omega.{arith}
use native.Mathlib.Nat.{mod-eq_of_lt}
use lib.ListN.{length, length-append, length-map}
use Rattle.scope.specs.Sizes.{most_bytes, most_types}
use Rattle.scope.specs.Layout.{codes_size}
use Rattle.scope.specs.Reading.{got}
use Rattle.scope.specs.Lists.{joined}
use Rattle.scope.specs.Sections.{read_after}
use Rattle.scope.specs.Syntax.{Form, Definition, Group, first_of}
use Rattle.scope.specs.Memory.{form_codes, form_words, flag, or_zero}
use Rattle.lent_u16.specs.Words.{word_limit}
use Rattle.type_table.specs.Kept.{kept_option, kept_val, kept_field, kept_form, kept_supers, kept_definition}
use Rattle.type_table.specs.View.{further_of, row, rows_of, codes_of, no_range}
use Rattle.section_definition.specs.Rows.{low}
use Rattle.section_group.specs.Lent.{kept_all}
use Rattle.section_reader.proofs.Modest.{Each, no_more, one_more_lem, each_append, Few, few_fields, few_values, Modest, read_fits}

abbrev Word : ℕ → Type 0
Word n = n < word_limit

words-low : {ws : List ℕ} → Each Word ws → map low ws ≡ ws
words-low no_more = refl
words-low (one_more_lem w ws) = ap₂ ◌∷◌ (mod-eq_of_lt w) (words-low ws)

-- the words of a row

form_words_lem : {f : Form} → Few f → Each Word (form_words (kept_form f))
form_words_lem (few_fields {fs} h) =
    let many = length-map fs kept_field in
    let fields : Word (length (map kept_field fs)) = omega arith in
    one_more_lem {x = 1} (omega arith) (one_more_lem fields (one_more_lem {x = 0} (omega arith) no_more))
form_words_lem (few_values {ps} {rs} h k) =
    let many-parameters = length-map ps kept_val in
    let many-results = length-map rs kept_val in
    let parameters : Word (length (map kept_val ps)) = omega arith in
    let results : Word (length (map kept_val rs)) = omega arith in
    one_more_lem {x = 2} (omega arith) (one_more_lem parameters (one_more_lem results no_more))

flag_word : (b : Bool) → Word (flag b)
flag_word true = omega arith
flag_word false = omega arith

link_word : (o : Option ℕ) → Word (or_zero (kept_option o))
link_word none = omega arith
link_word (some x) = omega arith

first_word : (supers : List ℕ) → Word (or_zero (first_of (kept_supers supers)))
first_word [] = omega arith
first_word (x ∷ []) = omega arith
first_word (x ∷ y ∷ more) = omega arith

further_word_lem : (supers : List ℕ) → Word (or_zero (further_of (kept_supers supers)))
further_word_lem [] = omega arith
further_word_lem (x ∷ []) = omega arith
further_word_lem (x ∷ y ∷ more) = omega arith

range_words : Each Word no_range
range_words = let small : Word 0 = omega arith in one_more_lem small (one_more_lem small (one_more_lem small (one_more_lem small no_more)))

row_words : (first : ℕ) (d : Definition) → Modest d → first < codes_size + most_bytes → Each Word (row first (kept_definition d))
unfolding row kept_definition
row_words first d m h =
    let from : Word d.from = omega (arith, m.starts) in
    let to : Word d.to = omega (arith, m.stops) in
    let reach : Word d.reach = omega (arith, m.far) in
    let used : Word first = omega arith in
    each_append (form_words_lem m.few)
    (one_more_lem (flag_word d.is_open)
    (one_more_lem (first_word d.supers)
    (one_more_lem (link_word d.describes)
    (one_more_lem (link_word d.descriptor)
    (one_more_lem from (one_more_lem to (one_more_lem reach (one_more_lem used (one_more_lem (further_word_lem d.supers) range_words)))))))))

rows_words : (first : ℕ) {ds : List Definition} → Each Modest ds → first + length (codes_of (kept_all ds)) < codes_size + most_bytes → Each Word (rows_of first (kept_all ds))
unfolding rows_of codes_of
rows_words first no_more h = no_more
rows_words first (one_more_lem {x = d} {xs = ds} m more) h =
    let codes = form_codes (kept_definition d).form in
    let long : length (codes ++ codes_of (kept_all ds)) ≡ length codes + length (codes_of (kept_all ds)) = length-append codes (codes_of (kept_all ds)) in
    let before : first < codes_size + most_bytes = omega arith in
    let room : first + length codes + length (codes_of (kept_all ds)) < codes_size + most_bytes = omega arith in
    each_append (row_words first d m before) (rows_words (first + length codes) more room)

pub low-table : (before base : ℕ) → before ≤ most_types → base ≤ codes_size → (s : List ℕ) {gs : List Group} {end : ℕ} → read_after before s ≡ got gs end → map low (rows_of base (kept_all (joined gs))) ≡ rows_of base (kept_all (joined gs))
low-table before base few near s e = let fits = read_fits before few s e in words-low (rows_words base fits.each (omega (arith, fits.codes)))
