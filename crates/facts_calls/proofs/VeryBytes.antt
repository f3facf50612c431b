-- Where a definition's bytes lie. A section is written as its groups one after the other, a group as its definitions one after
-- the other; so the writing of each definition is a stretch of the section, and it begins where the definition says. The part
-- that is cut out between the two places is that stretch.
use Prim.Native.Nat.{ℕ, zero, suc, ◌+◌, ◌-◌, ◌*◌, ◌<◌, ◌≤◌}
use native.Mathlib.Omega.{arith}
use native.Mathlib.Nat.{zero-add, suc-add}
use mathlib.Core.Path.{◌≡◌, refl, sym, ◌∙◌, ap}
use mathlib.Core.Logic.{◌⊎◌, inl, inr}
use mathlib.Core.Bool.{true, false}
use mathlib.Core.Option.{some}
use mathlib.Core.List.{List, [], ◌∷◌, ◌++◌, Memᴰ}
use lib.ListN.{length, take, drop, get_elem?}
use lib.Dec.{ltb}
use borrow.Author.Tests.{ltb-true, ltb-false}
use Rattle.scope.specs.Lists.{joined}
use Rattle.scope.specs.Layout.{row_span}
use Rattle.scope.specs.Syntax.{Form, struct, func, Definition, Group, super_of}
use Rattle.scope.specs.Memory.{flag, or_zero, form_words, spare_words, row_words, rows_from, form_codes}
use Rattle.scope.proofs.Truths.{none_is_not-some, decided}
use Rattle.facts_sections.specs.Writing.{Entries, no_entry, an_entry, count_and_entries, WritesDefinition, a_definition, WritesGroup, several, alone, WritesGroups, no_group, a_group, WritesSection, a_section}
use Rattle.facts_calls.specs.Asked.{LiesIn, begins_at, ends_at}

-- a stretch of bytes that begin at `at` is the writing of this definition
record Written (at : ℕ) (u : List ℕ) (d : Definition) : Type 0 where
  before : List ℕ
  part : List ℕ
  behind : List ℕ
  whole : u ≡ before ++ (part ++ behind)
  begins : d.from ≡ at + length before
  ends : d.to ≡ d.from + length part
  writes : WritesDefinition d.reach d.from part d

-- lists

append-nil : {A : Type 0} (xs : List A) → xs ++ [] ≡ xs
append-nil [] = refl
append-nil (x ∷ xs) = rw (append-nil xs)

pub append-append : {A : Type 0} (xs ys zs : List A) → (xs ++ ys) ++ zs ≡ xs ++ (ys ++ zs)
append-append [] ys zs = refl
append-append (x ∷ xs) ys zs = rw (append-append xs ys zs)

length-append : {A : Type 0} (xs ys : List A) → length (xs ++ ys) ≡ length xs + length ys
length-append [] ys = rw zero-add
length-append (x ∷ xs) ys = rw (length-append xs ys, suc-add)

among : {A : Type 0} {d : A} (xs : List A) {ys : List A} → Memᴰ d (xs ++ ys) → Memᴰ d xs ⊎ Memᴰ d ys
among [] m = inr m
among (x ∷ xs) (Memᴰ.head e) = inl (Memᴰ.head e)
among {d = d} (x ∷ xs) {ys} (Memᴰ.tail m) = go (among xs m)
  where
    go : Memᴰ d xs ⊎ Memᴰ d ys → Memᴰ d (x ∷ xs) ⊎ Memᴰ d ys
    go (inl p) = inl (Memᴰ.tail p)
    go (inr q) = inr q

pub present_among : {A : Type 0} (xs : List A) (n : ℕ) {d : A} → get_elem? xs n ≡ some d → Memᴰ d xs
present_among [] n e = absurd (none_is_not-some e)
present_among (x ∷ xs) zero {d} e = let same : d ≡ x = cc in Memᴰ.head same
present_among (x ∷ xs) (suc n) e = Memᴰ.tail (present_among xs n e)

-- a stretch inside a longer one

put_behind : {at : ℕ} {u : List ℕ} {d : Definition} (more : List ℕ) → Written at u d → Written at (u ++ more) d
put_behind {u = u} more w =
    record {
      before = w.before;
      part = w.part;
      behind = w.behind ++ more;
      whole = ap (λ (v : List ℕ). v ++ more) w.whole ∙ append-append w.before (w.part ++ w.behind) more ∙ ap (λ (v : List ℕ). w.before ++ v) (append-append w.part w.behind more);
      begins = w.begins;
      ends = w.ends;
      writes = w.writes;
    }

put_before : {at : ℕ} {u : List ℕ} {d : Definition} (first : List ℕ) → Written (at + length first) u d → Written at (first ++ u) d
put_before {at} first w =
    record {
      before = first ++ w.before;
      part = w.part;
      behind = w.behind;
      whole = ap (λ (v : List ℕ). first ++ v) w.whole ∙ sym (append-append first w.before (w.part ++ w.behind));
      begins = let both-lengths = length-append first w.before in let from = w.begins in omega arith;
      ends = w.ends;
      writes = w.writes;
    }

one_definition : {reach at : ℕ} {w : List ℕ} {d : Definition} → WritesDefinition reach at w d → Written at w d
one_definition {at = at} (a_definition {w = w} {c = c} {e = e} {u = u} head describes descriptor form) =
    record {
      before = [];
      part = w ++ (c ++ (e ++ u));
      behind = [];
      whole = sym (append-nil (w ++ (c ++ (e ++ u))));
      begins = omega arith;
      ends = refl;
      writes = a_definition head describes descriptor form;
    }

in_entries : {reach at : ℕ} {u : List ℕ} {ds : List Definition} {d : Definition} → Entries (WritesDefinition reach) at u ds → Memᴰ d ds → Written at u d
in_entries no_entry m = elim m [ ]
in_entries (an_entry {w = w} {u = u} this later) (Memᴰ.head e) = put_behind {u = w} u (rw e (one_definition this))
in_entries (an_entry {w = w} this later) (Memᴰ.tail m) = put_before w (in_entries later m)

in_group : {first at : ℕ} {w : List ℕ} {g : Group} {d : Definition} → WritesGroup first at w g → Memᴰ d g → Written at w d
in_group (several (count_and_entries {w = w} number entries)) m = put_before (0x4E ∷ []) (put_before w (in_entries entries m))
in_group (alone this) (Memᴰ.head e) = rw e (one_definition this)
in_group (alone this) (Memᴰ.tail m) = elim m [ ]

in_groups : {first at : ℕ} {u : List ℕ} {gs : List Group} {d : Definition} → WritesGroups first at u gs → Memᴰ d (joined gs) → Written at u d
in_groups no_group m = elim m [ ]
in_groups {at = at} {d = d} (a_group {w = w} {u = u} {g = g} {gs = gs} this later) m = go (among g m) (λ q. in_groups later q)
  where
    go : Memᴰ d g ⊎ Memᴰ d (joined gs) → (Memᴰ d (joined gs) → Written (at + length w) u d) → Written at (w ++ u) d
    go (inl p) more = put_behind u (in_group this p)
    go (inr q) more = put_before w (more q)

in_section_lem : {first : ℕ} {s : List ℕ} {gs : List Group} {d : Definition} → WritesSection first s gs → Memᴰ d (joined gs) → Written 0 s d
in_section_lem (a_section {w = w} number groups) m = put_before w (rw zero-add (in_groups groups m))

-- the part that is cut out

drop_before : (before rest : List ℕ) → drop (length before) (before ++ rest) ≡ rest
drop_before [] rest = refl
drop_before (b ∷ before) rest = drop_before before rest

take_part : (part rest : List ℕ) → take (length part) (part ++ rest) ≡ part
take_part [] rest = refl
take_part (b ∷ part) rest = rw (take_part part rest)

pub cut_out : {s part : List ℕ} {from to : ℕ} → LiesIn s part from to → take (to - from) (drop from s) ≡ part
cut_out {s} {part} {from} {to} l =
    let many : to - from ≡ length part = let end = l.ends in omega arith in
    let there : drop from s ≡ part ++ l.behind = rw (l.whole, l.begins) (drop_before l.before (part ++ l.behind)) in
    rw (many, there) (take_part part l.behind)

-- a definition of a section that is written

pub record Handed (s : List ℕ) (d : Definition) : Type 0 where
  pub part : List ℕ
  pub lies : LiesIn s part d.from d.to
  pub writes : WritesDefinition d.reach d.from part d

pub handed : {first : ℕ} {s : List ℕ} {gs : List Group} {d : Definition} → WritesSection first s gs → Memᴰ d (joined gs) → Handed s d
handed section m =
    let w = in_section_lem section m in
    record {
      part = w.part;
      lies = record { before = w.before; behind = w.behind; whole = w.whole; begins = let from = w.begins in omega arith; ends = w.ends };
      writes = w.writes;
    }

-- the table's words

pub further : {A : Type 0} (xs ys : List A) (k : ℕ) → get_elem? (xs ++ ys) (length xs + k) ≡ get_elem? ys k
further [] ys k = rw zero-add
further (x ∷ xs) ys k = rw suc-add (further xs ys k)

-- what stands in a row behind the words of its form
abbrev pub behind_form : ℕ → ℕ → ℕ → Definition → List ℕ
behind_form first start end d =
    flag d.is_open
    ∷ or_zero (super_of d)
    ∷ or_zero d.describes
    ∷ or_zero d.descriptor
    ∷ d.from
    ∷ d.to
    ∷ d.reach
    ∷ first
    ∷ (length d.supers - 1)
    ∷ start
    ∷ end
    ∷ spare_words

pub row-length : (first start end : ℕ) (d : Definition) → length (row_words first start end d) ≡ row_span
unfolding row_words
row-length first start end d = go d.form
  where
    go : (f : Form) → length (form_words f ++ behind_form first start end d) ≡ row_span
    go (struct fs) = refl
    go (func ps rs) = refl

row_says : (first start end : ℕ) (d : Definition) (more : List ℕ) → (get_elem? (row_words first start end d ++ more) 7 ≡ some d.from) × (get_elem? (row_words first start end d ++ more) 8 ≡ some d.to)
unfolding row_words
row_says first start end d more = go d.form
  where
    go : (f : Form) → (get_elem? ((form_words f ++ behind_form first start end d) ++ more) 7 ≡ some d.from) × (get_elem? ((form_words f ++ behind_form first start end d) ++ more) 8 ≡ some d.to)
    go (struct fs) = (refl, refl)
    go (func ps rs) = (refl, refl)

pub rows_say : (start end : ℕ → ℕ) (ds : List Definition) (n first x : ℕ) (more : List ℕ) {d : Definition} → get_elem? ds x ≡ some d
    → (get_elem? (rows_from start end n first ds ++ more) (begins_at x) ≡ some d.from) × (get_elem? (rows_from start end n first ds ++ more) (ends_at x) ≡ some d.to)
unfolding rows_from
rows_say start end [] n first x more e = absurd (none_is_not-some e)
rows_say start end (d ∷ ds) n first zero more {d = it} e =
    let same : d ≡ it = cc in
    let rest = rows_from start end (suc n) (first + length (form_codes d.form)) ds in
    rw (append-append (row_words first (start n) (end n) d) rest more, ← same) (row_says first (start n) (end n) d (rest ++ more))
rows_say start end (d ∷ ds) n first (suc x) more {d = it} e =
    let rest = rows_from start end (suc n) (first + length (form_codes d.form)) ds in
    let (a, b) = rows_say start end ds (suc n) (first + length (form_codes d.form)) x more e in
    let begins : begins_at (suc x) ≡ length (row_words first (start n) (end n) d) + begins_at x = rw (row-length first (start n) (end n) d) (omega arith) in
    let ends : ends_at (suc x) ≡ length (row_words first (start n) (end n) d) + ends_at x = rw (row-length first (start n) (end n) d) (omega arith) in (
      ap (get_elem? ((row_words first (start n) (end n) d ++ rest) ++ more)) begins ∙ rw (append-append (row_words first (start n) (end n) d) rest more) (further (row_words first (start n) (end n) d) (rest ++ more) (begins_at x)) ∙ a,
      ap (get_elem? ((row_words first (start n) (end n) d ++ rest) ++ more)) ends ∙ rw (append-append (row_words first (start n) (end n) d) rest more) (further (row_words first (start n) (end n) d) (rest ++ more) (ends_at x)) ∙ b,
    )

-- the rows of both sections

pub rows-length : (start end : ℕ → ℕ) (ds : List Definition) (n first : ℕ) → length (rows_from start end n first ds) ≡ length ds * row_span
unfolding rows_from
rows-length start end [] n first = refl
rows-length start end (d ∷ ds) n first =
    let later = rows-length start end ds (suc n) (first + length (form_codes d.form)) in
    let this = row-length first (start n) (end n) d in
    let all = length-append (row_words first (start n) (end n) d) (rows_from start end (suc n) (first + length (form_codes d.form)) ds) in
    omega arith

-- an entry of two lists is one of the first, or one of the second
pub first_entry : {A : Type 0} (xs ys : List A) (x : ℕ) → x < length xs → get_elem? (xs ++ ys) x ≡ get_elem? xs x
first_entry [] ys x h = absurd (omega arith)
first_entry (y ∷ xs) ys zero h = refl
first_entry (y ∷ xs) ys (suc x) h = first_entry xs ys x (omega arith)

pub second_entry : {A : Type 0} (xs ys : List A) (x : ℕ) → length xs ≤ x → get_elem? (xs ++ ys) x ≡ get_elem? ys (x - length xs)
second_entry xs ys x h = let at : x ≡ length xs + (x - length xs) = omega arith in ap (get_elem? (xs ++ ys)) at ∙ further xs ys (x - length xs)

pub both-rows_say : (start end : ℕ → ℕ) (ls ds : List Definition) (n first m base x : ℕ) (more : List ℕ) {d : Definition} → get_elem? (ls ++ ds) x ≡ some d
    → (get_elem? ((rows_from start end n first ls ++ rows_from start end m base ds) ++ more) (begins_at x) ≡ some d.from) × (get_elem? ((rows_from start end n first ls ++ rows_from start end m base ds) ++ more) (ends_at x) ≡ some d.to)
both-rows_say start end ls ds n first m base x more {d} e = go (decided (ltb x (length ls)))
  where
    split : (rows_from start end n first ls ++ rows_from start end m base ds) ++ more ≡ rows_from start end n first ls ++ (rows_from start end m base ds ++ more)
    split = append-append (rows_from start end n first ls) (rows_from start end m base ds) more

    go : (ltb x (length ls) ≡ true) ⊎ (ltb x (length ls) ≡ false)
        → (get_elem? ((rows_from start end n first ls ++ rows_from start end m base ds) ++ more) (begins_at x) ≡ some d.from) × (get_elem? ((rows_from start end n first ls ++ rows_from start end m base ds) ++ more) (ends_at x) ≡ some d.to)
    go (inl below) =
        let there : get_elem? ls x ≡ some d = sym (first_entry ls ds x (ltb-true _ _ below)) ∙ e in
        rw split (rows_say start end ls n first x (rows_from start end m base ds ++ more) there)
    go (inr beyond) =
        let past : length ls ≤ x = ltb-false _ _ beyond in
        let there : get_elem? ds (x - length ls) ≡ some d = sym (second_entry ls ds x past) ∙ e in
        let many = rows-length start end ls n first in
        let begins : begins_at x ≡ length (rows_from start end n first ls) + begins_at (x - length ls) = omega arith in
        let ends : ends_at x ≡ length (rows_from start end n first ls) + ends_at (x - length ls) = omega arith in
        let (a, b) = rows_say start end ds m base (x - length ls) more there in
        rw split (
          ap (get_elem? (rows_from start end n first ls ++ (rows_from start end m base ds ++ more))) begins ∙ further (rows_from start end n first ls) (rows_from start end m base ds ++ more) (begins_at (x - length ls)) ∙ a,
          ap (get_elem? (rows_from start end n first ls ++ (rows_from start end m base ds ++ more))) ends ∙ further (rows_from start end n first ls) (rows_from start end m base ds ++ more) (ends_at (x - length ls)) ∙ b,
        )
