-- A row's first code tells which section holds its type. Every field, parameter and result is written in a byte at least, and the count of a
-- section's groups in one more; so a section has fewer codes than a buffer of codes holds. The add-on's begin below that size, and the
-- library's, which are counted from it on, do not.
use Prim.Native.Nat.{ℕ, zero, suc, ◌+◌, ◌-◌, ◌<◌, ◌≤◌}
use native.Mathlib.Omega.{arith}
use mathlib.Core.Path.{◌≡◌, refl, sym, ◌∙◌, ap}
use mathlib.Core.Logic.{◌⊎◌, inl, inr}
use mathlib.Core.Bool.{true, false}
use mathlib.Core.Option.{some}
use mathlib.Core.List.{List, [], ◌∷◌, ◌++◌, map}
use lib.ListN.{length, length-append, take, drop, get_elem?, take-append-drop}
use lib.Seq.{take-append_seam, drop-append_seam}
use lib.Dec.{ltb}
use borrow.Author.Tests.{ltb-true, ltb-false}
use Rattle.scope.specs.Lists.{joined}
use Rattle.scope.specs.Sizes.{most_bytes}
use Rattle.scope.specs.Layout.{codes_size}
use Rattle.scope.specs.Syntax.{Val, Field, Form, struct, func, Definition, Group}
use Rattle.scope.specs.Judging.{Joined}
use Rattle.scope.specs.Memory.{field_code, val_code, form_codes, form_words, starts_of, ends_of, row_words, rows_from, table_codes, library_types, addon_types, joined_rows}
use Rattle.scope.proofs.Truths.{decided}
use Rattle.facts_sections.specs.Writing.{Sevens, last_seven, seven_more, Unsigned, a_numeral, WritesVal, i32_type, i64_type, f32_type, f64_type, nullable_reference, reference, abstract_alone, WritesField, a_field, Entries, no_entry, an_entry, count_and_entries, Listed, listed, WritesForm, a_struct_form, a_func_form, WritesDefinition, a_definition, WritesGroup, several, alone, WritesGroups, no_group, a_group, WritesSection, a_section}
use Rattle.facts_sections.specs.Allowed.{Section, Allowed}
use Rattle.facts_calls.specs.Calls.{codes_begin_at, RowTells, a_library_row, an_addon_row}
use Rattle.facts_calls.proofs.VeryBytes.{row-length, behind_form, append-append, further, rows-length}

-- how many codes bytes can hold

sevens_long : {w : List ℕ} {v : ℕ} → Sevens w v → 1 ≤ length w
sevens_long (last_seven h) = omega arith
sevens_long (seven_more h more) = omega arith

number_long : {width : ℕ} {w : List ℕ} {v : ℕ} → Unsigned width w v → 1 ≤ length w
number_long (a_numeral s short range shortest) = sevens_long s

value_long : {w : List ℕ} {v : Val} → WritesVal w v → 1 ≤ length w
value_long i32_type = omega arith
value_long i64_type = omega arith
value_long f32_type = omega arith
value_long f64_type = omega arith
value_long (nullable_reference h) = omega arith
value_long (reference h) = omega arith
value_long abstract_alone = omega arith

field_long : {w : List ℕ} {f : Field} → WritesField w f → 1 ≤ length w
field_long (a_field {w = w} {u = u} v m) = let first = value_long v in let all = length-append w u in omega arith

-- so many entries, each of a byte at least
record Long {A : Type 0} (W : List ℕ → A → Type 0) : Type 0 where
  long : {w : List ℕ} {x : A} → W w x → 1 ≤ length w

entries_long : {A : Type 0} {W : List ℕ → A → Type 0} → Long W → {at : ℕ} {u : List ℕ} {xs : List A} → Entries (λ at w x. W w x) at u xs → length xs ≤ length u
entries_long l no_entry = omega arith
entries_long l (an_entry {w = w} {u = u} this later) = let here = l.long this in let more = entries_long l later in let all = length-append w u in omega arith

listed_long : {A : Type 0} {W : List ℕ → A → Type 0} → Long W → {w : List ℕ} {xs : List A} → Listed W w xs → length xs ≤ length w
listed_long l (listed (count_and_entries {w = w} {u = u} n entries)) = let more = entries_long l entries in let all = length-append w u in omega arith

length-map : {A B : Type 0} (f : A → B) (xs : List A) → length (map f xs) ≡ length xs
length-map f [] = refl
length-map f (x ∷ xs) = rw (length-map f xs)

form_long : {w : List ℕ} {f : Form} → WritesForm w f → length (form_codes f) ≤ length w
form_long (a_struct_form {fs = fs} l) = let few = listed_long (record { long = field_long }) l in let same = length-map field_code fs in omega arith
form_long (a_func_form {w = w} {u = u} {ps = ps} {rs = rs} l m) =
    let few = listed_long (record { long = value_long }) l in
    let more = listed_long (record { long = value_long }) m in
    let a = length-map val_code ps in
    let b = length-map val_code rs in
    let codes = length-append (map val_code ps) (map val_code rs) in
    let all = length-append w u in
    omega arith

definition_long : {reach at : ℕ} {w : List ℕ} {d : Definition} → WritesDefinition reach at w d → length (form_codes d.form) ≤ length w
definition_long (a_definition {w = w} {c = c} {e = e} {u = u} head describes descriptor form) =
    let few = form_long form in
    let a = length-append w (c ++ (e ++ u)) in
    let b = length-append c (e ++ u) in
    let d = length-append e u in
    omega arith

codes-append : (xs ys : List Definition) → table_codes (xs ++ ys) ≡ table_codes xs ++ table_codes ys
codes-append [] ys = refl
codes-append (x ∷ xs) ys = rw (codes-append xs ys) (sym (append-append (form_codes x.form) (table_codes xs) (table_codes ys)))

definitions_long : {reach at : ℕ} {u : List ℕ} {ds : List Definition} → Entries (WritesDefinition reach) at u ds → length (table_codes ds) ≤ length u
definitions_long no_entry = omega arith
definitions_long (an_entry {w = w} {u = u} {x = d} {xs = ds} this later) =
    let here = definition_long this in
    let more = definitions_long later in
    let codes = length-append (form_codes d.form) (table_codes ds) in
    let all = length-append w u in
    omega arith

group_long : {first at : ℕ} {w : List ℕ} {g : Group} → WritesGroup first at w g → length (table_codes g) ≤ length w
group_long (several (count_and_entries {w = w} {u = u} n entries)) = let more = definitions_long entries in let all = length-append w u in omega arith
group_long (alone {d = d} this) = let here = definition_long this in let codes = length-append (form_codes d.form) [] in omega arith

groups_long : {first at : ℕ} {u : List ℕ} {gs : List Group} → WritesGroups first at u gs → length (table_codes (joined gs)) ≤ length u
groups_long no_group = omega arith
groups_long (a_group {w = w} {u = u} {g = g} {gs = gs} this later) =
    let here = group_long this in
    let more = groups_long later in
    let codes = length-append (table_codes g) (table_codes (joined gs)) in
    let joins = ap length (codes-append g (joined gs)) in
    let all = length-append w u in
    omega arith

written_few : {first : ℕ} {s : List ℕ} {gs : List Group} → WritesSection first s gs → length s ≤ most_bytes → length (table_codes (joined gs)) < codes_size
written_few (a_section {w = w} {u = u} number groups) small =
    let one = number_long number in
    let more = groups_long groups in
    let all = length-append w u in
    omega arith

pub section_long : {first : ℕ} {s : List ℕ} {gs : List Group} → Section first s gs → length (table_codes (joined gs)) < codes_size
section_long section = written_few section.writing section.sizes.bytes

-- where a row says that its codes begin

row_begins : (first start end : ℕ) (d : Definition) (more : List ℕ) → get_elem? (row_words first start end d ++ more) 10 ≡ some first
unfolding row_words
row_begins first start end d more = go d.form
  where
    go : (f : Form) → get_elem? ((form_words f ++ behind_form first start end d) ++ more) 10 ≡ some first
    go (struct fs) = refl
    go (func ps rs) = refl

rows-begin : (start end : ℕ → ℕ) (ds : List Definition) (n first x : ℕ) (more : List ℕ) → x < length ds → get_elem? (rows_from start end n first ds ++ more) (codes_begin_at x) ≡ some (first + length (table_codes (take x ds)))
unfolding rows_from
rows-begin start end [] n first x more h = absurd (omega arith)
rows-begin start end (d ∷ ds) n first zero more h =
    let rest = rows_from start end (suc n) (first + length (form_codes d.form)) ds in
    let none_before : first ≡ first + 0 = omega arith in
    rw (append-append (row_words first (start n) (end n) d) rest more) (row_begins first (start n) (end n) d (rest ++ more) ∙ ap some none_before)
rows-begin start end (d ∷ ds) n first (suc x) more h =
    let codes = form_codes d.form in
    let rest = rows_from start end (suc n) (first + length codes) ds in
    let later = rows-begin start end ds (suc n) (first + length codes) x more (omega arith) in
    let at : codes_begin_at (suc x) ≡ length (row_words first (start n) (end n) d) + codes_begin_at x = rw (row-length first (start n) (end n) d) (omega arith) in
    let all = length-append codes (table_codes (take x ds)) in
    let sum : first + length codes + length (table_codes (take x ds)) ≡ first + length (codes ++ table_codes (take x ds)) = omega arith in
    ap (get_elem? ((row_words first (start n) (end n) d ++ rest) ++ more)) at ∙ rw (append-append (row_words first (start n) (end n) d) rest more) (further (row_words first (start n) (end n) d) (rest ++ more) (codes_begin_at x)) ∙ later ∙ ap some sum

part_few : (x : ℕ) (ds : List Definition) → length (table_codes (take x ds)) ≤ length (table_codes ds)
part_few x ds =
    let parts = codes-append (take x ds) (drop x ds) in
    let whole : table_codes (take x ds ++ drop x ds) ≡ table_codes ds = ap (λ (es : List Definition). table_codes es) (take-append-drop x ds) in
    let lengths = length-append (table_codes (take x ds)) (table_codes (drop x ds)) in
    let a = ap length parts in
    let b = ap length whole in
    omega arith

-- of an allowed pair

pub row_tells : {library s : List ℕ} (j : Joined) → Allowed library s j → (x : ℕ) → x < length j.types → (more : List ℕ) → RowTells (joined_rows j ++ more) j x
row_tells j a x inside more = go (decided (ltb x j.before))
  where
    before : j.before ≡ length a.shared
    before = ap (λ (k : Joined). k.before) (sym a.joins)

    own : library_types j ≡ a.shared
    own = ap (λ (k : Joined). take k.before k.types) (sym a.joins) ∙ take-append_seam a.shared (joined a.groups)

    rest : addon_types j ≡ joined a.groups
    rest = ap (λ (k : Joined). drop k.before k.types) (sym a.joins) ∙ drop-append_seam a.shared (joined a.groups)

    few : length (table_codes (library_types j)) < codes_size
    few = rw (own, ← a.library_allowed.types) (section_long a.library_allowed.section)

    few_more : length (table_codes (addon_types j)) < codes_size
    few_more = rw rest (section_long a.section)

    both : library_types j ++ addon_types j ≡ j.types
    both = take-append-drop j.before j.types

    many : length (library_types j) ≡ j.before
    many = ap length own ∙ sym before

    split : joined_rows j ++ more ≡ rows_from (starts_of j.types) (ends_of j.types) 0 codes_size (library_types j) ++ (rows_from (starts_of j.types) (ends_of j.types) (length (library_types j)) 0 (addon_types j) ++ more)
    split = append-append (rows_from (starts_of j.types) (ends_of j.types) 0 codes_size (library_types j)) (rows_from (starts_of j.types) (ends_of j.types) (length (library_types j)) 0 (addon_types j)) more

    go : (ltb x j.before ≡ true) ⊎ (ltb x j.before ≡ false) → RowTells (joined_rows j ++ more) j x
    go (inl below) =
        let less : x < j.before = ltb-true _ _ below in
        let there = rows-begin (starts_of j.types) (ends_of j.types) (library_types j) 0 codes_size x (rows_from (starts_of j.types) (ends_of j.types) (length (library_types j)) 0 (addon_types j) ++ more) (omega (arith, many)) in
        let part = part_few x (library_types j) in
        a_library_row less (ap (λ (ws : List ℕ). get_elem? ws (codes_begin_at x)) split ∙ there) (omega (arith, few))
    go (inr beyond) =
        let past : j.before ≤ x = ltb-false _ _ beyond in
        let all = ap length both in
        let lengths = length-append (library_types j) (addon_types j) in
        let rows = rows-length (starts_of j.types) (ends_of j.types) (library_types j) 0 codes_size in
        let there = rows-begin (starts_of j.types) (ends_of j.types) (addon_types j) (length (library_types j)) 0 (x - j.before) more (omega (arith, many)) in
        let part = part_few (x - j.before) (addon_types j) in
        let at : codes_begin_at x ≡ length (rows_from (starts_of j.types) (ends_of j.types) 0 codes_size (library_types j)) + codes_begin_at (x - j.before) = omega (arith, many) in
        let from_zero : 0 + length (table_codes (take (x - j.before) (addon_types j))) ≡ length (table_codes (take (x - j.before) (addon_types j))) = omega arith in
        an_addon_row past
        (ap (λ (ws : List ℕ). get_elem? ws (codes_begin_at x)) split ∙ ap (get_elem? (rows_from (starts_of j.types) (ends_of j.types) 0 codes_size (library_types j) ++ (rows_from (starts_of j.types) (ends_of j.types) (length (library_types j)) 0 (addon_types j) ++ more))) at
        ∙ further (rows_from (starts_of j.types) (ends_of j.types) 0 codes_size (library_types j)) (rows_from (starts_of j.types) (ends_of j.types) (length (library_types j)) 0 (addon_types j) ++ more) (codes_begin_at (x - j.before)) ∙ there ∙ ap some from_zero)
        (omega (arith, few_more))
