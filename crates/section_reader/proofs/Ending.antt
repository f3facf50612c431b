-- Each way out of the reader of a section: its size, its count, its groups, and what is left over.
use Prim.Native.Nat.{ℕ, ◌+◌, ◌≤◌, ◌<◌}
use mathlib.Core.Path.{◌≡◌, refl, sym, ap, ◌∙◌}
use mathlib.Core.List.{List}
use native.Mathlib.Omega.{arith}
use lib.ListN.{length}
use borrow.Author.Tests.{eq-eqb, ne_eqb, lt-ltb, le-ltb}
use Rattle.scope.specs.Told.{no_at}
use Rattle.std.specs.Prelude.{Result, Ok, Err, IsErrAnd}
use Rattle.scope.specs.declared.Refused.{Refused}
use Rattle.scope.specs.Refusals.{oversize, left_over}
use Rattle.scope.specs.Sizes.{most_bytes}
use Rattle.scope.specs.Reading.{Read, got, refused}
use Rattle.scope.specs.Numbers.{u32}
use Rattle.scope.specs.Lists.{joined}
use Rattle.scope.specs.Syntax.{Group}
use Rattle.scope.specs.Sections.{groups_at, read_after}
use Rattle.scope.proofs.Forward.{unsigned-takes, never_back}
use Rattle.scope.proofs.Impossible.{impossible}
use Rattle.scope.proofs.Told.{value_is, place_is, read_refused, passed}
use Rattle.section_group.specs.declared.Group as told_group
use Rattle.scope.proofs.Told.{read_refused}
use Rattle.number_values.specs.Values.{natural_is}
use Rattle.number_values.proofs.Laws.{natural_got, natural_refused}
use Rattle.section_reader.specs.Whole.{flat, flat_at, ended_at, counted_at, Enough, Begun, groups_is, GroupsPut, section_is, SectionPut}

no-section : {o : Read (List Group)} {before base : ℕ} {rows rows' codes codes' : List ℕ} {no : Refused} → length rows' ≡ length rows → length codes' ≡ length codes → o ≡ refused no.number no.at → SectionPut o before base rows rows' codes codes' (Err no)
no-section a b e =
    record {
      answer = rw e;
      rows_put = λ gs end f. impossible cc;
      codes_put = λ gs end f. impossible cc;
      rows_kept = a;
      codes_kept = b;
    }

same_section : {o q : Read (List Group)} {before base : ℕ} {rows rows' codes codes' : List ℕ} {r : Result ℕ Refused} → o ≡ q → SectionPut q before base rows rows' codes codes' r → SectionPut o before base rows rows' codes codes' r
same_section {before = before} e p =
    record {
      answer = p.answer ∙ ap (section_is before) (sym e);
      rows_put = λ gs end f. p.rows_put gs end (sym e ∙ f);
      codes_put = λ gs end f. p.codes_put gs end (sym e ∙ f);
      rows_kept = p.rows_kept;
      codes_kept = p.codes_kept;
    }

-- the answer of groups_at, taken apart: the groups themselves

groups_inv : (before base : ℕ) (o : Read (List Group)) {all : told_group.Group} {next : ℕ} → Ok (all, next) ≡ groups_is before base (flat o) → (gs : List Group) × (o ≡ got gs next) × (all.count ≡ before + length (joined gs))
groups_inv before base (got gs m) p = (gs, ap (got gs) (place_is p refl), ap (λ (x : told_group.Group). x.count) (sym (value_is p refl)))
groups_inv before base (refused k m) p = impossible cc

groups_refused_inv : (before base : ℕ) (o : Read (List Group)) {no : Refused} → Err no ≡ groups_is before base (flat o) → o ≡ refused no.number no.at
groups_refused_inv before base (got gs m) p = impossible cc
groups_refused_inv before base (refused n m) p = read_refused p refl

-- ended_at

-- the error exit of a `?`
exit : {o : Read (List Group)} {before base : ℕ} {rows rows' codes codes' : List ℕ} {no : Refused} {r : Result ℕ Refused} → IsErrAnd r (λ y. y ≡ no) → SectionPut o before base rows rows' codes codes' (Err no) → SectionPut o before base rows rows' codes codes' r
exit is p = rw (passed is refl) p

module _ (n : ℕ) {before base : ℕ} {s : List ℕ} {at : ℕ} {rows rows' codes codes' : List ℕ} where
  pub ended_refused : {no : Refused} {r : Result ℕ Refused} → GroupsPut n before base s at rows rows' codes codes' (Err no) → IsErrAnd r (λ y. y ≡ no) → SectionPut (ended_at n before s at) before base rows rows' codes codes' r
  ended_refused a is = exit is (no-section a.rows_kept a.codes_kept (rw (groups_refused_inv before base (groups_at n before s at) a.answer)))

  module _ {all : told_group.Group} {next : ℕ} (a : GroupsPut n before base s at rows rows' codes codes' (Ok (all, next))) where
    over : (gs : List Group) → groups_at n before s at ≡ got gs next → (next ≡ length s → ⊥) → SectionPut (ended_at n before s at) before base rows rows' codes codes' (Err (no_at left_over next))
    over gs read h = no-section a.rows_kept a.codes_kept (rw (read, ne_eqb next (length s) h))

    pub ended_over : (next ≡ length s → ⊥) → SectionPut (ended_at n before s at) before base rows rows' codes codes' (Err (no_at left_over next))
    ended_over h = let (gs, read, many) = groups_inv before base (groups_at n before s at) a.answer in over gs read h

    read_all : (gs : List Group) → groups_at n before s at ≡ got gs next → all.count ≡ before + length (joined gs) → next ≡ length s → SectionPut (ended_at n before s at) before base rows rows' codes codes' (Ok all.count)
    read_all gs read many h =
        let whole : ended_at n before s at ≡ got gs next = rw (read, eq-eqb next (length s) h) in
        let flattened : flat_at n before s at ≡ got (joined gs) next = rw read in
        record {
          answer = rw (whole, many);
          rows_put = λ fs end f. let same : gs ≡ fs = cc in rw (← same) (a.rows_put (joined gs) next flattened);
          codes_put = λ fs end f. let same : gs ≡ fs = cc in rw (← same) (a.codes_put (joined gs) next flattened);
          rows_kept = a.rows_kept;
          codes_kept = a.codes_kept;
        }

    pub ended_all : next ≡ length s → SectionPut (ended_at n before s at) before base rows rows' codes codes' (Ok all.count)
    ended_all h = let (gs, read, many) = groups_inv before base (groups_at n before s at) a.answer in read_all gs read many h

-- counted_at

module _ (s : List ℕ) where
  pub counted_refused : (before base : ℕ) (rows codes : List ℕ) {no : Refused} {r : Result ℕ Refused} → Err no ≡ natural_is (u32 s 0) → IsErrAnd r (λ y. y ≡ no) → SectionPut (counted_at before s) before base rows rows codes codes r
  counted_refused before base rows codes e is = exit is (no-section refl refl (rw (natural_refused (u32 s 0) e refl)))

  module _ {n next : ℕ} (e : Ok (n, next) ≡ natural_is (u32 s 0)) where
    pub counted-lent : {rows codes : List ℕ} {before base : ℕ} → Begun s rows codes 0 before base → Begun s rows codes next before base
    counted-lent lent =
        let ends = never_back (unsigned-takes 32) s 0 (natural_got (u32 s 0) e refl) in
        record {
          room = record { behind = omega arith; inside = ends.1; enough = omega (arith, lent.room.enough); small = lent.room.small };
          few = lent.few;
          near = lent.near;
          lines = lent.lines;
        }

    pub counted_got : {before base : ℕ} {rows rows' codes codes' : List ℕ} {r : Result ℕ Refused} → SectionPut (ended_at n before s next) before base rows rows' codes codes' r → SectionPut (counted_at before s) before base rows rows' codes codes' r
    counted_got p = same_section (rw (natural_got (u32 s 0) e refl)) p

-- read_section

pub section_over : (s : List ℕ) (before base : ℕ) (rows codes : List ℕ) → most_bytes < length s → SectionPut (read_after before s) before base rows rows codes codes (Err (no_at oversize 0))
unfolding read_after
section_over s before base rows codes h = no-section refl refl (rw (lt-ltb most_bytes (length s) h))

pub section-lent : {s rows codes : List ℕ} {before base : ℕ} → Enough rows codes before base → length s ≤ most_bytes → Begun s rows codes 0 before base
section-lent enough h =
    record {
      room = record { behind = omega arith; inside = omega arith; enough = omega (arith, enough.codes_enough); small = h };
      few = enough.few;
      near = enough.near;
      lines = omega (arith, enough.rows_enough);
    }

pub section_sized : (s : List ℕ) {before base : ℕ} {rows rows' codes codes' : List ℕ} {r : Result ℕ Refused} → length s ≤ most_bytes → SectionPut (counted_at before s) before base rows rows' codes codes' r → SectionPut (read_after before s) before base rows rows' codes codes' r
unfolding read_after
section_sized s h p = same_section (rw (le-ltb most_bytes (length s) h)) p
