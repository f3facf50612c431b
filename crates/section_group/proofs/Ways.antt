-- The ways in which a group is written: each way out of its reader leaves in the table what the definition reads.
use Prim.Native.Nat.{ℕ, ◌+◌, ◌≤◌, ◌<◌}
use mathlib.Core.Path.{◌≡◌, refl, sym, ap, ◌∙◌}
use mathlib.Core.List.{List, [], ◌∷◌}
use native.Mathlib.Omega.{arith}
use lib.ListN.{length, get_elem?}
use borrow.Author.Tests.{eq-eqb, ne_eqb, lt-ltb, le-ltb}
use mir.Syntax.{w64}
use mir.Val.{Fits}
use Rattle.scope.specs.Told.{no_at}
use Rattle.std.specs.Prelude.{Result, Ok, Err, IsErrAnd}
use Rattle.scope.specs.declared.Refused.{Refused}
use Rattle.scope.specs.Told.{Maybe}
use Rattle.std.specs.Prelude.{None, Some}
use Rattle.scope.specs.Refusals.{bytes_end, oversize}
use Rattle.scope.specs.Sizes.{most_types}
use Rattle.scope.specs.Reading.{Read, got, refused, Reader, then}
use Rattle.scope.specs.Numbers.{u32}
use Rattle.scope.specs.Syntax.{Definition}
use Rattle.scope.specs.Sections.{definition_at, group_at}
use Rattle.scope.specs.Memory.{form_codes}
use Rattle.scope.proofs.Forward.{unsigned-takes, definition_takes, never_back}
use Rattle.scope.proofs.Impossible.{impossible}
use Rattle.scope.proofs.Told.{told_got, told_refused, passed}
use Rattle.number_bytes.specs.Bytes.{ByteAt}
use Rattle.number_values.specs.Values.{natural_is}
use Rattle.number_bytes.proofs.Laws.{next_fits, byte_got, byte_none}
use Rattle.number_values.proofs.Laws.{natural_got, natural_refused, unsigned_small}
use Rattle.type_table.specs.Kept.{kept_form}
use Rattle.section_definition.specs.Rows.{RowRoom, full_by, DefinitionPut}
use Rattle.section_definition.proofs.Defining.{definition_ahead}
use Rattle.section_group.specs.declared.Group.{Group}
use Rattle.section_group.specs.Lent.{Lent, entries_at, several_at, alone_at, group_is, GroupPut}
use Rattle.section_group.proofs.Grouping.{one_row, one-codes}

-- a reader that answers as another does leaves the same

same_put : {one other : Reader (List Definition)} {s : List ℕ} {at from : ℕ} {rows rows' codes codes' : List ℕ} {used : ℕ} {r : Result (Group × ℕ) Refused} → other s from ≡ one s at → GroupPut one s at rows rows' codes codes' used r → GroupPut other s from rows rows' codes codes' used r
same_put {used = used} e p =
    record {
      answer = p.answer ∙ ap (group_is used) (sym e);
      rows_put = λ ds next f. p.rows_put ds next (sym e ∙ f);
      codes_put = λ ds next f. p.codes_put ds next (sym e ∙ f);
      rows_kept = p.rows_kept;
      codes_kept = p.codes_kept;
    }

no-put : (one : Reader (List Definition)) (s : List ℕ) (at : ℕ) {rows rows' codes codes' : List ℕ} (used : ℕ) {no : Refused} → length rows' ≡ length rows → length codes' ≡ length codes → one s at ≡ refused no.number no.at → GroupPut one s at rows rows' codes codes' used (Err no)
no-put one s at used a b e =
    record {
      answer = rw e;
      rows_put = λ ds next f. impossible cc;
      codes_put = λ ds next f. impossible cc;
      rows_kept = a;
      codes_kept = b;
    }

-- several_at

module _ (s : List ℕ) (at : ℕ) where
  pub several_refused : (first : ℕ) (rows codes : List ℕ) (used : ℕ) {no : Refused} {r : Result (Group × ℕ) Refused} → Err no ≡ natural_is (u32 s at) → IsErrAnd r (λ y. y ≡ no) → GroupPut (several_at first) s at rows rows codes codes used r
  several_refused first rows codes used e is = rw (passed is refl) (no-put (several_at first) s at used refl refl (rw (natural_refused (u32 s at) e refl)))

  module _ {n next : ℕ} (e : Ok (n, next) ≡ natural_is (u32 s at)) where
    pub several_lent : {rows codes : List ℕ} {first used : ℕ} → Lent s rows codes at first used → Lent s rows codes next first used
    several_lent lent =
        let ends = never_back (unsigned-takes 32) s at (natural_got (u32 s at) e refl) in
        record {
          room = record { behind = omega (arith, lent.room.behind); inside = ends.1; enough = omega (arith, lent.room.enough, ends.0); small = lent.room.small };
          behind = omega (arith, lent.behind, ends.0);
          few = lent.few;
          lines = lent.lines;
        }

    pub several_reach_fits : {rows codes : List ℕ} {first used : ℕ} → Lent s rows codes at first used → Fits w64 (first + n)
    several_reach_fits lent = let h = unsigned_small 32 s at (natural_got (u32 s at) e refl) in record { fits = omega (arith, lent.few) }

    pub several_got : (first : ℕ) {rows rows' codes codes' : List ℕ} {used : ℕ} {r : Result (Group × ℕ) Refused} → GroupPut (entries_at (first + n) first n) s next rows rows' codes codes' used r → GroupPut (several_at first) s at rows rows' codes codes' used r
    several_got first p = same_put (rw (natural_got (u32 s at) e refl)) p

-- alone_at

pub alone_over : {first : ℕ} (s : List ℕ) (at : ℕ) (rows codes : List ℕ) (used : ℕ) → most_types ≤ first → GroupPut (alone_at first) s at rows rows codes codes used (Err (no_at oversize at))
alone_over {first} s at rows codes used h = no-put (alone_at first) s at used refl refl (rw (le-ltb first most_types h))

pub alone_place : {s rows codes : List ℕ} {at first used : ℕ} → first < most_types → Lent s rows codes at first used → RowRoom s rows codes at 0 (used + 0) 0
alone_place h lent = let l = lent.lines in record { room = lent.room; behind = omega (arith, lent.behind); line = omega arith }

alone_is : (s : List ℕ) (at : ℕ) {first : ℕ} {o : Read Definition} → first < most_types → definition_at (first + 1) s at ≡ o → alone_at first s at ≡ then o (λ d next. got (d ∷ []) next)
alone_is s at {first} h e = rw (lt-ltb first most_types h, e)

module _ {s : List ℕ} {at first : ℕ} {rows rows' codes codes' : List ℕ} {used : ℕ} (h : first < most_types) where
  pub alone_refused : {no : Refused} {r : Result (Group × ℕ) Refused} → DefinitionPut (first + 1) s at rows rows' 0 codes codes' used 0 (Err no) → IsErrAnd r (λ y. y ≡ no) → GroupPut (alone_at first) s at rows rows' codes codes' used r
  alone_refused a is =
      rw (passed is refl)
      (no-put (alone_at first) s at used a.rows_kept a.codes_kept (alone_is s at h (told_refused (full_by 0) (definition_at (first + 1) s at) a.answer)))

  module _ {filled next : ℕ} (a : DefinitionPut (first + 1) s at rows rows' 0 codes codes' used 0 (Ok (filled, next))) where
    alone_read : (d : Definition) → definition_at (first + 1) s at ≡ got d next → filled ≡ 0 + length (form_codes (kept_form d.form)) → let group : Group = record { count = 1; used = used + filled } in GroupPut (alone_at first) s at rows rows' codes codes' used (Ok (group, next))
    alone_read d read count =
        let whole : alone_at first s at ≡ got (d ∷ []) next = alone_is s at h read in
        let fills : filled ≡ length (form_codes (kept_form d.form)) = omega arith in
        let none : used + 0 ≡ used = omega arith in
        record {
          answer = rw (whole, one-codes d, fills);
          rows_put = λ ds stop f. let same : d ∷ [] ≡ ds = cc in rw (← same, one_row used d) (rw none at (a.row_put d next read));
          codes_put = λ ds stop f. let same : d ∷ [] ≡ ds = cc in rw (← same, one-codes d) (a.codes_put d next read);
          rows_kept = a.rows_kept;
          codes_kept = a.codes_kept;
        }

    pub alone_got : let group : Group = record { count = 1; used = used + filled } in GroupPut (alone_at first) s at rows rows' codes codes' used (Ok (group, next))
    alone_got = let (d, read, count) = told_got (full_by 0) (definition_at (first + 1) s at) a.answer in alone_read d read count

-- the codes that are used then fit, since they took bytes of the section
pub alone_taken-fits : {reach : ℕ} {s : List ℕ} {at : ℕ} {rows rows' codes codes' : List ℕ} {first used filled next : ℕ} → DefinitionPut reach s at rows rows' 0 codes codes' used 0 (Ok (filled, next)) → Lent s rows codes at first used → Fits w64 (used + filled)
alone_taken-fits {reach} {s} {at} a lent =
    let (d, read, count) = told_got (full_by 0) (definition_at reach s at) a.answer in
    let ahead = definition_ahead reach s at read in
    let ends = never_back (definition_takes reach) s at read in
    record { fits = omega (arith, lent.behind, lent.room.small, ends.1) }

-- group_at

module _ {s : List ℕ} {at : ℕ} {b : Maybe ℕ} (a : ByteAt s at b) where
  pub group_missing : (first : ℕ) (rows codes : List ℕ) (used : ℕ) → b ≡ None → GroupPut (group_at first) s at rows rows codes codes used (Err (no_at bytes_end at))
  unfolding group_at
  group_missing first rows codes used e = no-put (group_at first) s at used refl refl (rw (byte_none (get_elem? s at) a.is e))

  module _ {k : ℕ} (e : b ≡ Some k) where
    pub group_lent : {rows codes : List ℕ} {first used : ℕ} → Lent s rows codes at first used → Lent s rows codes (at + 1) first used
    group_lent lent =
        let h = (a.small k e).1 in
        record {
          room = record { behind = omega (arith, lent.room.behind); inside = omega arith; enough = omega (arith, lent.room.enough); small = lent.room.small };
          behind = omega (arith, lent.behind);
          few = lent.few;
          lines = lent.lines;
        }

    pub group_several : (first : ℕ) {rows rows' codes codes' : List ℕ} {used : ℕ} {r : Result (Group × ℕ) Refused} → k ≡ 0x4E → GroupPut (several_at first) s (at + 1) rows rows' codes codes' used r → GroupPut (group_at first) s at rows rows' codes codes' used r
    unfolding group_at
    group_several first f p = same_put (rw (byte_got (get_elem? s at) a.is e, eq-eqb k 0x4E f)) p

    pub group_alone : (first : ℕ) {rows rows' codes codes' : List ℕ} {used : ℕ} {r : Result (Group × ℕ) Refused} → (k ≡ 0x4E → ⊥) → GroupPut (alone_at first) s at rows rows' codes codes' used r → GroupPut (group_at first) s at rows rows' codes codes' used r
    unfolding group_at
    group_alone first f p = same_put (rw (byte_got (get_elem? s at) a.is e, ne_eqb k 0x4E f)) p

pub ruleset way_exits = (next_fits, group_missing, group_lent, group_several, group_alone)
