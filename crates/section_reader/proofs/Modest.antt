-- How great what a section tells can get. Each definition that was read ends inside the section, has at most 64 entries
-- in a list, and belongs to a group that reaches no further than 256: a group of n types was read into the room that is
-- left of 256. The types read are at most 256, and their codes took a byte each. The argument: a reader is put together
-- from `then`, `on_byte` and `cond`, each of which keeps what holds of all that is given (`Gives`).
use Prim.Native.Nat.{◌<◌, ℕ, zero, suc, ◌+◌, ◌-◌, ◌≤◌}
use mathlib.Core.Path.{◌≡◌, refl, ap, ◌∙◌}
use mathlib.Core.Bool.{Bool, true, false, cond}
use mathlib.Core.Option.{Option, none, some}
use mathlib.Core.List.{List, [], ◌∷◌, ◌++◌, map-append}
use native.Mathlib.Omega.{arith}
use lib.ListN.{length, length-append, get_elem?}
use lib.Dec.{ltb, eqb}
use borrow.Author.Tests.{eqb-true, ltb-true, ltb-false}
use Rattle.scope.specs.Refusals.{bytes_end}
use Rattle.scope.specs.Sizes.{most_bytes, most_types, most_each}
use Rattle.scope.specs.Reading.{Read, got, refused, Reader, given, then, on_byte, entries}
use Rattle.scope.specs.Numbers.{u32}
use Rattle.scope.specs.Lists.{joined}
use Rattle.scope.specs.Syntax.{Val, Field, Form, struct, func, Definition, Group, types_of}
use Rattle.scope.specs.Sections.{val_at, field_at, few_at, head_at, clause_at, describes_code, descriptor_code, form_at, definition_at, group_at, groups_at, read_after}
use Rattle.scope.proofs.Forward.{definition_takes, never_back, unsigned-takes}
use Rattle.scope.proofs.Impossible.{impossible}
use Rattle.type_table.specs.Kept.{beyond, kept_definition}
use Rattle.type_table.specs.View.{codes_of}
use Rattle.type_table.proofs.Growing.{codes-append}
use Rattle.type_table.proofs.KeptVerdict.{ReachWithin}
use Rattle.section_group.specs.Lent.{kept_all}
use Rattle.section_reader.proofs.Feeding.{Ate, group_ate}

-- every element is such

pub data Each {A : Type 0} (P : A → Type 0) : List A → Type 0 where
  no_more : Each P []
  one_more_lem : {x : A} {xs : List A} → P x → Each P xs → Each P (x ∷ xs)

pub each_append : {A : Type 0} {P : A → Type 0} {xs ys : List A} → Each P xs → Each P ys → Each P (xs ++ ys)
each_append no_more qs = qs
each_append (one_more_lem p ps) qs = one_more_lem p (each_append ps qs)

-- what a reader gives is such: one law for each way in which readers are put together

data Gives {A : Type 0} (P : A → ℕ → Type 0) : Read A → Type 0 where
  gives_none : {k place : ℕ} → Gives P (refused k place)
  gives : {x : A} {next : ℕ} → P x next → Gives P (got x next)

module _ {A : Type 0} {P : A → ℕ → Type 0} where
  gives_by : (r : Read A) → ((x : A) (next : ℕ) → r ≡ got x next → P x next) → Gives P r
  gives_by (got x next) h = gives (h x next refl)
  gives_by (refused k place) h = gives_none

  taken : {r : Read A} {x : A} {next : ℕ} → Gives P r → r ≡ got x next → P x next
  taken gives_none e = impossible cc
  taken {x = x} {next = next} (gives {x = y} {next = end} p) e = let here : y ≡ x = cc in let there : end ≡ next = cc in rw (← here, ← there) p

  gives-cond : (b : Bool) {p q : Read A} → (b ≡ true → Gives P p) → (b ≡ false → Gives P q) → Gives P (cond b p q)
  gives-cond true p q = p refl
  gives-cond false p q = q refl

  gives_byte : (s : List ℕ) (at : ℕ) (f : ℕ → Read A) → ((b : ℕ) → Gives P (f b)) → Gives P (on_byte s at f)
  gives_byte s at f h = go (get_elem? s at)
    where
      go : (o : Option ℕ) → Gives P (given o (refused bytes_end at) f)
      go none = gives_none
      go (some b) = h b

  gives_then : {B : Type 0} (r : Read B) (f : B → ℕ → Read A) → ((x : B) (next : ℕ) → r ≡ got x next → Gives P (f x next)) → Gives P (then r f)
  gives_then (got x next) f h = h x next refl
  gives_then (refused k place) f h = gives_none

-- lists

module _ {A : Type 0} (one : Reader A) where
  entries-counted : (room n : ℕ) (s : List ℕ) (at : ℕ) → Gives (λ xs next. (length xs ≡ n) × (n ≤ room)) (entries one room n s at)
  unfolding entries
  entries-counted room zero s at = gives (refl, omega arith)
  entries-counted zero (suc n) s at = gives_none
  entries-counted (suc room) (suc n) s at =
      gives_then (one s at) _ (λ x next e.
      gives_then (entries one room n s next) _ (λ xs end f.
      let (many, fits) = taken (entries-counted room n s next) f in
      gives (ap suc many, omega arith)))

  few_counted : (s : List ℕ) (at : ℕ) → Gives (λ xs next. length xs ≤ most_each) (few_at one s at)
  unfolding few_at
  few_counted s at =
      gives_then (u32 s at) _ (λ n next e.
      gives_by _ (λ xs end f. let (many, fits) = taken (entries-counted most_each n s next) f in omega arith))

  entries_each : {P : A → Type 0} (s : List ℕ) → ((at : ℕ) → Gives (λ x next. P x) (one s at)) → (room n at : ℕ) → Gives (λ xs next. Each P xs) (entries one room n s at)
  unfolding entries
  entries_each s each room zero at = gives no_more
  entries_each s each zero (suc n) at = gives_none
  entries_each s each (suc room) (suc n) at =
      gives_then (one s at) _ (λ x next e.
      gives_then (entries one room n s next) _ (λ xs end f. gives (one_more_lem (taken (each at) e) (taken (entries_each s each room n next) f))))

-- definitions

pub data Few : Form → Type 0 where
  few_fields : {fs : List Field} → length fs ≤ most_each → Few (struct fs)
  few_values : {ps rs : List Val} → length ps ≤ most_each → length rs ≤ most_each → Few (func ps rs)

pub record Modest (d : Definition) : Type 0 where
  pub few : Few d.form
  pub starts : d.from ≤ most_bytes
  pub stops : d.to ≤ most_bytes
  pub far : d.reach ≤ most_types

form_few : (s : List ℕ) (at : ℕ) → Gives (λ f next. Few f) (form_at s at)
unfolding form_at
form_few s at =
    gives_byte s at _ (λ b.
    gives-cond (eqb b 0x5F)
    (λ is. gives_then (few_at field_at s (at + 1)) _ (λ fs next e. gives (few_fields (taken (few_counted field_at s (at + 1)) e))))
    (λ other.
    gives-cond (eqb b 0x60)
    (λ is.
    gives_then (few_at val_at s (at + 1)) _ (λ ps next e.
    gives_then (few_at val_at s next) _ (λ rs end f. gives (few_values (taken (few_counted val_at s (at + 1)) e) (taken (few_counted val_at s next) f)))))
    (λ neither. gives_none)))

record Placed (reach at : ℕ) (d : Definition) (next : ℕ) : Type 0 where
  few : Few d.form
  starts : d.from ≡ at
  stops : d.to ≡ next
  far : d.reach ≡ reach

definition_placed : (reach : ℕ) (s : List ℕ) (at : ℕ) → Gives (Placed reach at) (definition_at reach s at)
unfolding definition_at
definition_placed reach s at =
    gives_then (head_at s at) _ (λ h clauses e.
    gives_then (clause_at describes_code s clauses) _ (λ d next f.
    gives_then (clause_at descriptor_code s next) _ (λ y form g.
    gives_then (form_at s form) _ (λ k end i. gives (record { few = taken (form_few s form) i; starts = refl; stops = refl; far = refl })))))

module _ (s : List ℕ) (small : length s ≤ most_bytes) where
  definition_modest : (reach : ℕ) → reach ≤ most_types → (at : ℕ) → Gives (λ d next. Modest d) (definition_at reach s at)
  definition_modest reach h at =
      gives_by (definition_at reach s at) (λ d next e.
      let placed = taken (definition_placed reach s at) e in
      let (forward, inside) = never_back (definition_takes reach) s at e in
      let starts = placed.starts in
      let stops = placed.stops in
      let far = placed.far in
      record { few = placed.few; starts = omega arith; stops = omega arith; far = omega arith })

  -- groups

  group_modest : (first : ℕ) → first ≤ most_types → (at : ℕ) → Gives (λ ds next. Each Modest ds) (group_at first s at)
  unfolding group_at
  group_modest first h at =
      gives_byte s at _ (λ b.
      gives-cond (eqb b 0x4E)
      (λ is.
      gives_then (u32 s (at + 1)) _ (λ n next e.
      gives_by _ (λ ds end f.
      let (many, fits) = taken (entries-counted (definition_at (first + n)) (most_types - first) n s next) f in
      let far : first + n ≤ most_types = omega arith in
      taken (entries_each (definition_at (first + n)) s (definition_modest (first + n) far) (most_types - first) n next) f)))
      (λ other.
      gives-cond (ltb first most_types)
      (λ below.
      let far : first + 1 ≤ most_types = omega (arith, ltb-true) in
      gives_then (definition_at (first + 1) s at) _ (λ d next e. gives (one_more_lem (taken (definition_modest (first + 1) far at) e) no_more)))
      (λ full. gives_none)))

-- so many types stand before, and reading starts at a place
record Fitting (first at : ℕ) (gs : List Group) (next : ℕ) : Type 0 where
  each : Each Modest (joined gs)
  types : length (joined gs) ≤ most_types - first
  codes : at + length (codes_of (kept_all (joined gs))) ≤ next

kept-codes : (ds es : List Definition) → length (codes_of (kept_all (ds ++ es))) ≡ length (codes_of (kept_all ds)) + length (codes_of (kept_all es))
kept-codes ds es = ap (λ all. length (codes_of all)) (map-append kept_definition ds es) ∙ ap length (codes-append (kept_all ds) (kept_all es)) ∙ length-append (codes_of (kept_all ds)) (codes_of (kept_all es))

no_group : (first at : ℕ) → Fitting first at [] at
unfolding codes_of
no_group first at = record { each = no_more; types = omega arith; codes = omega arith }

one_group_lem : {first at next end : ℕ} {g : Group} {gs : List Group} → Each Modest g → Ate first at g next → Fitting (first + length g) next gs end → Fitting first at (g ∷ gs) end
one_group_lem {g = g} {gs} each ate later =
    let long = length-append g (joined gs) in
    let codes = kept-codes g (joined gs) in
    let few = ate.few in
    let ahead = ate.ahead in
    let types = later.types in
    let more = later.codes in
    record { each = each_append each later.each; types = omega arith; codes = omega arith }

groups_fitting : (s : List ℕ) → length s ≤ most_bytes → (n first at : ℕ) → first ≤ most_types → Gives (Fitting first at) (groups_at n first s at)
unfolding groups_at
groups_fitting s small zero first at h = gives (no_group first at)
groups_fitting s small (suc n) first at h =
    gives_then (group_at first s at) _ (λ g next e.
    let ate = group_ate first s at e in
    let room : first + length g ≤ most_types = omega (arith, ate.few) in
    gives_then (groups_at n (first + length g) s next) _ (λ gs end f.
    gives (one_group_lem (taken (group_modest s small first h at) e) ate (taken (groups_fitting s small n (first + length g) next room) f))))

-- the section

pub record SectionFits (before : ℕ) (gs : List Group) : Type 0 where
  pub each : Each Modest (joined gs)
  pub types : before + length (joined gs) ≤ most_types
  pub codes : length (codes_of (kept_all (joined gs))) < most_bytes

section-fits : (before : ℕ) → before ≤ most_types → (s : List ℕ) → Gives (λ gs end. SectionFits before gs) (read_after before s)
unfolding read_after
section-fits before few s =
    gives-cond (ltb most_bytes (length s))
    (λ long. gives_none)
    (λ short.
    let small : length s ≤ most_bytes = ltb-false most_bytes (length s) short in
    gives_then (u32 s 0) _ (λ n next e.
    gives_then (groups_at n before s next) _ (λ gs end f.
    let all = taken (groups_fitting s small n before next few) f in
    gives-cond (eqb end (length s))
    (λ last.
    let whole : end ≡ length s = eqb-true end (length s) last in
    let counted = never_back (unsigned-takes 32) s 0 e in
    gives (record { each = all.each; types = omega (arith, few, all.types); codes = omega (arith, counted.0, all.codes) }))
    (λ over. gives_none))))

pub read_fits : (before : ℕ) → before ≤ most_types → (s : List ℕ) {gs : List Group} {end : ℕ} → read_after before s ≡ got gs end → SectionFits before gs
read_fits before few s e = taken (section-fits before few s) e

pub each_reach : {ds : List Definition} → Each Modest ds → (x : ℕ) → (types_of ds x).reach ≤ beyond
each_reach no_more x = omega arith
each_reach (one_more_lem m more) zero = let far = m.far in omega arith
each_reach (one_more_lem m more) (suc x) = each_reach more x

pub read_reach : (before : ℕ) → before ≤ most_types → (s : List ℕ) {gs : List Group} {end : ℕ} → read_after before s ≡ got gs end → ReachWithin (types_of (joined gs))
read_reach before few s e = record { low = each_reach (read_fits before few s e).each }

pub read_lengths : (before : ℕ) → before ≤ most_types → (s : List ℕ) {gs : List Group} {end : ℕ} → read_after before s ≡ got gs end → (before + length (joined gs) ≤ most_types) × (length (codes_of (kept_all (joined gs))) < most_bytes)
read_lengths before few s e = let fits = read_fits before few s e in (fits.types, fits.codes)
