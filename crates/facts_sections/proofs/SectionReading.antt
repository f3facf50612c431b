-- Groups and the whole section are read exactly where they are written. Each group has room for the types that are left
-- of 1,024, so all of them together, with those that stand before, are at most 1,024; the section's bytes are a count and its groups and nothing after.
use Prim.Native.Nat.{ℕ, zero, suc, ◌+◌, ◌-◌, ◌<◌, ◌≤◌}
use native.Mathlib.Omega.{arith}
use native.Mathlib.Nat.{zero-add}
use mathlib.Core.Path.{◌≡◌, refl, ap, subst}
use mathlib.Core.Logic.{◌⊎◌, inl, inr, ◌↔◌}
use mathlib.Core.List.Memᴰ
use mathlib.Core.List.{List, [], ◌∷◌, ◌++◌, Memᴰ}
use lib.ListN.{length, length-append}
use lib.Dec.{eqb, ltb}
use borrow.Author.Tests.{eqb-true, eq-eqb, ltb-true, ltb-false, lt-ltb, le-ltb}
use Rattle.scope.specs.Sizes.{most_bytes, most_types}
use Rattle.scope.specs.Lists.{joined}
use Rattle.scope.specs.Reading.{got, then}
use Rattle.scope.specs.Numbers.{u32}
use Rattle.scope.specs.Syntax.{Definition, Group}
use Rattle.scope.specs.Sections.{definition_at, group_at, groups_at, ended, read_after}
use Rattle.facts_sections.specs.WithinSizes.{Each, DefinitionFits, WithinSizes}
use Rattle.facts_sections.specs.Writing.{Unsigned, Anywhere, WritesDefinition, WritesGroup, several, alone, WritesGroups, no_group, a_group, WritesSection, a_section}
use Rattle.facts_sections.specs.Allowed.{Section}
use Rattle.facts_sections.specs.Between.{Between, nothing, byte}
use Rattle.facts_sections.proofs.Between.{join, split_at, behind, end_is, whole, whole_only}
use Rattle.facts_sections.proofs.Readers.{Found, Reads, AnySize, refused_is_not_got, then_got, byte_got, by_cond, found_got, this_byte}
use Rattle.facts_sections.proofs.NumberReading.{unsigned_reads}
use Rattle.facts_sections.proofs.ListReading.{each_none, each_more, each_first, Roomy, counted, CountedBy, counted_reads}
use Rattle.facts_sections.proofs.DefinitionReading.{not_among, definition_reads, definition_first}

-- Every element of two lists

module _ {A : Type 0} {P : A → Type 0} where
  pub each_of_both : (xs : List A) {ys : List A} → Each P xs → Each P ys → Each P (xs ++ ys)
  each_of_both xs {ys} first second = record { such = λ x m. go x (Memᴰ.append_cases xs m) }
    where
      go : (x : A) → Memᴰ x xs ⊎ Memᴰ x ys → P x
      go x (inl m) = first.such x m
      go x (inr m) = second.such x m

  pub both_of_each : (xs ys : List A) → Each P (xs ++ ys) → Each P xs × Each P ys
  both_of_each xs ys each = (record { such = λ x m. each.such x (Memᴰ.append_left ys m) }, record { such = λ x m. each.such x (Memᴰ.append_right xs m) })

-- Groups, where so many types stand before

abbrev Definitions : ℕ → ℕ → ℕ → List ℕ → Definition → Type 0
Definitions first n = WritesDefinition (first + n)

-- there is room for the group's definitions, and each fits
abbrev GroupFits : ℕ → Group → Type 0
GroupFits first g = Roomy DefinitionFits (λ n. most_types - first) g

several_reads : (first : ℕ) → Reads (CountedBy (Definitions first)) (GroupFits first) (counted (λ n. definition_at (first + n)) (λ n. most_types - first))
several_reads first = counted_reads (Definitions first) (λ n. definition_at (first + n)) (λ n. most_types - first) (λ n. definition_reads (first + n))

group_found : (first : ℕ) (s : List ℕ) (at : ℕ) {g : Group} {next : ℕ} → group_at first s at ≡ got g next → Found (WritesGroup first) (GroupFits first) s at g next
unfolding group_at
group_found first s at e =
    let (b, there, f) = byte_got s at _ e in
    by_cond (eqb b 0x4E)
    (λ same k.
    let n = (several_reads first).sound s (at + 1) k in
    record { bytes = 0x4E ∷ n.bytes; lies = this_byte there (eqb-true b 0x4E same) n.lies; writes = several n.writes; small = n.small })
    (λ other k.
    by_cond (ltb first most_types)
    (λ below l.
    let (d, end, read, m) = then_got (definition_at (first + 1) s at) _ l in
    let n = (definition_reads (first + 1)).sound s at read in
    let room : 1 ≤ most_types - first = omega (arith, ltb-true) in
    found_got m (record { bytes = n.bytes; lies = n.lies; writes = alone n.writes; small = record { each = each_more n.small each_none; fits = room } }))
    (λ full l. absurd (refused_is_not_got l))
    k)
    f

group_read : (first : ℕ) {s w : List ℕ} {at next : ℕ} {g : Group} → Between s at w next → WritesGroup first at w g → GroupFits first g → group_at first s at ≡ got g next
unfolding group_at
group_read first (byte there rest) (several n) fits = rw (there, (several_reads first).complete rest n fits)
group_read first stretch (alone d) fits =
    let f = definition_first stretch d in
    let below : first < most_types = let room = fits.fits in omega arith in
    rw (f.there, not_among f 0x4E refl, lt-ltb first most_types below, (definition_reads (first + 1)).complete stretch d (each_first fits.each))

-- Groups one after the other

record GroupsFit (n first : ℕ) (gs : List Group) : Type 0 where
  count : length gs ≡ n
  each : Each DefinitionFits (joined gs)
  fits : first ≤ most_types → first + length (joined gs) ≤ most_types

group_and_more : {n first : ℕ} {s : List ℕ} {at mid end : ℕ} {g : Group} {gs : List Group}
    → Found (WritesGroup first) (GroupFits first) s at g mid → Found (WritesGroups (first + length g)) (GroupsFit n (first + length g)) s mid gs end
    → Found (WritesGroups first) (GroupsFit (suc n) first) s at (g ∷ gs) end
group_and_more {first = first} {g = g} {gs} this later =
    let room = this.small.fits in
    let sized = later.small in
    record {
      bytes = this.bytes ++ later.bytes;
      lies = join this.lies later.lies;
      writes = a_group this.writes (behind (WritesGroups (first + length g)) this.lies later.writes);
      small =
          record {
            count = ap suc sized.count;
            each = each_of_both g this.small.each sized.each;
            fits = λ below. let all = sized.fits (omega arith) in omega (arith, length-append g (joined gs));
          };
    }

groups_found : (n first : ℕ) (s : List ℕ) (at : ℕ) {gs : List Group} {next : ℕ} → groups_at n first s at ≡ got gs next → Found (WritesGroups first) (GroupsFit n first) s at gs next
unfolding groups_at
groups_found zero first s at e = found_got e (record { bytes = []; lies = nothing; writes = no_group; small = record { count = refl; each = each_none; fits = λ below. omega arith } })
groups_found (suc n) first s at e =
    let (g, mid, read, f) = then_got (group_at first s at) _ e in
    let (gs, end, more, h) = then_got (groups_at n (first + length g) s mid) _ f in
    found_got h (group_and_more (group_found first s at read) (groups_found n (first + length g) s mid more))

groups_read : {first : ℕ} {s w : List ℕ} {at next : ℕ} {gs : List Group} → Between s at w next → WritesGroups first at w gs
    → Each DefinitionFits (joined gs) → first + length (joined gs) ≤ most_types → groups_at (length gs) first s at ≡ got gs next
unfolding groups_at
groups_read nothing no_group each fits = refl
groups_read {first} stretch (a_group {w = w} {g = g} {gs = gs} this later) each fits =
    let (here, more) = split_at w stretch in
    let (each-g, each-gs) = both_of_each g (joined gs) each in
    let both-lengths = length-append g (joined gs) in
    let room : length g ≤ most_types - first = omega arith in
    let read-later = groups_read more later each-gs (omega arith) in
    rw (group_read first here this (record { each = each-g; fits = room }), read-later)

-- The section

pub record SectionFound (first : ℕ) (s : List ℕ) (gs : List Group) (end : ℕ) : Type 0 where
  pub section : Section first s gs
  pub at-end : end ≡ length s

section_lies : {first n : ℕ} {s : List ℕ} {mid : ℕ} {gs : List Group} → first ≤ most_types → length s ≤ most_bytes
    → Found (Anywhere (Unsigned 32)) AnySize s 0 n mid → Found (WritesGroups first) (GroupsFit n first) s mid gs (length s) → SectionFound first s gs (length s)
section_lies {first} {n} {s} {mid} {gs} below small number groups =
    let count : Unsigned 32 number.bytes (length gs) = rw groups.small.count number.writes in
    let start : mid ≡ length number.bytes = let e = end_is number.lies in omega arith in
    let all : number.bytes ++ groups.bytes ≡ s = whole_only (join number.lies groups.lies) in
    let bytes : WritesGroups first (length number.bytes) groups.bytes gs = rw start at groups.writes in
    record {
      section =
          record {
            writing = subst (λ (t : List ℕ). WritesSection first t gs) all (a_section count bytes);
            sizes = record { bytes = small; types = groups.small.fits below; forms = groups.small.each };
          };
      at-end = refl;
    }

section_ends : {first n : ℕ} {s : List ℕ} {mid p end : ℕ} {xs gs : List Group} → first ≤ most_types → length s ≤ most_bytes
    → Found (Anywhere (Unsigned 32)) AnySize s 0 n mid → Found (WritesGroups first) (GroupsFit n first) s mid xs p → p ≡ length s → got xs p ≡ got gs end → SectionFound first s gs end
section_ends {s = s} {end = end} {xs} {gs} below small number groups at-end e =
    let same : xs ≡ gs = cc in
    let here : end ≡ length s = cc in
    rw (here, ← same) (section_lies below small number (rw at-end at groups))

pub section_found : (first : ℕ) → first ≤ most_types → (s : List ℕ) {gs : List Group} {end : ℕ} → read_after first s ≡ got gs end → SectionFound first s gs end
unfolding read_after
section_found first below s e =
    by_cond (ltb most_bytes (length s))
    (λ large f. absurd (refused_is_not_got f))
    (λ fits f.
    let (n, mid, read, g) = then_got (u32 s 0) (λ n next. then (groups_at n first s next) (ended s)) f in
    let (xs, p, more, h) = then_got (groups_at n first s mid) (ended s) g in
    by_cond (eqb p (length s))
    (λ at-end k. section_ends below (ltb-false _ _ fits) ((unsigned_reads 32).sound s 0 read) (groups_found n first s mid more) (eqb-true p (length s) at-end) k)
    (λ left k. absurd (refused_is_not_got k))
    h)
    e

writing_read : {first : ℕ} {s : List ℕ} {gs : List Group} → WritesSection first s gs → WithinSizes first s gs → read_after first s ≡ got gs (length s)
unfolding read_after
writing_read {first} {s} (a_section {w = w} {u = u} {gs = gs} number groups) sizes =
    let (here, more) = split_at w (whole (w ++ u)) in
    let types = sizes.types in
    let read-groups = groups_read (rw zero-add at more) groups sizes.forms types in
    rw (le-ltb most_bytes (length (w ++ u)) sizes.bytes, (unsigned_reads 32).complete (rw zero-add at here) number tt, read-groups, eq-eqb (length (w ++ u)) (length (w ++ u)) refl)

pub section_read : {first : ℕ} {s : List ℕ} {gs : List Group} → Section first s gs → read_after first s ≡ got gs (length s)
section_read section = writing_read section.writing section.sizes

-- The reader's half, whole

pub read_exactly : (first : ℕ) → first ≤ most_types → (s : List ℕ) (gs : List Group) → (read_after first s ≡ got gs (length s)) ↔ Section first s gs
read_exactly first below s gs = (λ e. (section_found first below s e).section, section_read)

-- bytes are a writing of one syntax at most
pub one_syntax : {first : ℕ} {s : List ℕ} {gs hs : List Group} → Section first s gs → Section first s hs → gs ≡ hs
one_syntax {first} {s} {gs} {hs} one other = let p = section_read one in let q = section_read other in cc
