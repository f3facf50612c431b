-- A definition is what stands before its form and its form: the row and the codes that were put are the definition's, as
-- the table keeps it.
use Prim.Native.Nat.{ℕ, ◌+◌, ◌≤◌, ◌<◌}
use mathlib.Core.Path.{◌≡◌, refl, sym, ap, ◌∙◌}
use mathlib.Core.Option.{Option}
use mathlib.Core.List.{List, map}
use native.Mathlib.Omega.{arith}
use native.Mathlib.Nat.{le_trans}
use lib.ListN.{length}
use mir.Syntax.{w64}
use mir.Val.{Fits}
use Rattle.std.specs.Prelude.{Result, Ok, Err, IsErrAnd}
use Rattle.scope.specs.Told.{told}
use Rattle.scope.specs.declared.Refused.{Refused}
use Rattle.scope.specs.Reading.{Read, got, refused, then}
use Rattle.scope.specs.Syntax.{Form, Definition}
use Rattle.scope.specs.Sections.{Head, head_at, clause_at, describes_code, descriptor_code, form_at, definition_at}
use Rattle.scope.specs.Memory.{form_codes}
use Rattle.scope.proofs.Forward.{Ends, stops, reaches, ends_then, head_ends, clause_ends}
use Rattle.scope.proofs.Impossible.{impossible}
use Rattle.scope.proofs.Told.{told_got, told_refused, passed}
use Rattle.type_table.specs.Kept.{kept_form, kept_definition}
use Rattle.type_table.specs.View.{row}
use Rattle.type_table.proofs.Puts.{Puts}
use Rattle.section_forms.proofs.Ahead.{form_ahead}
use Rattle.section_clauses.specs.Links.{clauses_at, FrontOf, front_at, front_of}
use Rattle.section_clauses.specs.declared.Front.{Front}
use Rattle.section_definition.specs.Rows.{low, row_of, front_row, RowRoom, formed_is, FormedRead, definition_is, DefinitionPut}

-- the definition of a front and a form
abbrev defined : FrontOf → Form → ℕ → ℕ → ℕ → Definition
defined x f from to reach =
    record {
      is_open = x.head.is_open;
      supers = x.head.supers;
      describes = x.clauses.describes;
      descriptor = x.clauses.descriptor;
      form = f;
      from = from;
      to = to;
      reach = reach;
    }

definition_is_lem : (reach : ℕ) (s : List ℕ) (at : ℕ) → definition_at reach s at ≡ then (front_at s at) (λ x form. then (form_at s form) (λ f end. got (defined x f at end reach) end))
unfolding definition_at
definition_is_lem reach s at = go (head_at s at)
  where
    third : (h : Head) (d : Option ℕ) (o : Read (Option ℕ))
        → then o (λ e form. then (form_at s form) (λ f end. got (defined (record { head = h; clauses = record { describes = d; descriptor = e } }) f at end reach) end))
        ≡ then (then (then o (λ e form. got (record { describes = d; descriptor = e }) form)) (λ c form. got (record { head = h; clauses = c }) form)) (λ x form. then (form_at s form) (λ f end. got (defined x f at end reach) end))
    third h d (got e form) = refl
    third h d (refused n p) = refl

    second : (h : Head) (o : Read (Option ℕ))
        → then o (λ d next. then (clause_at descriptor_code s next) (λ e form. then (form_at s form) (λ f end. got (defined (record { head = h; clauses = record { describes = d; descriptor = e } }) f at end reach) end)))
        ≡ then (then (then o (λ d next. then (clause_at descriptor_code s next) (λ e form. got (record { describes = d; descriptor = e }) form))) (λ c form. got (record { head = h; clauses = c }) form)) (λ x form. then (form_at s form) (λ f end. got (defined x f at end reach) end))
    second h (got d next) = third h d (clause_at descriptor_code s next)
    second h (refused n p) = refl

    go : (o : Read Head)
        → then o (λ h clauses. then (clause_at describes_code s clauses) (λ d next. then (clause_at descriptor_code s next) (λ e form. then (form_at s form) (λ f end. got (defined (record { head = h; clauses = record { describes = d; descriptor = e } }) f at end reach) end))))
        ≡ then (then o (λ h clauses. then (clauses_at s clauses) (λ c form. got (record { head = h; clauses = c }) form))) (λ x form. then (form_at s form) (λ f end. got (defined x f at end reach) end))
    go (got h clauses) = second h (clause_at describes_code s clauses)
    go (refused n p) = refl

front_ends : (s : List ℕ) (at : ℕ) → Ends at (length s) (front_at s at)
front_ends s at =
    ends_then (head_ends s at) (λ h clauses a b.
    ends_then
    (ends_then (clause_ends describes_code s clauses) (λ d next c e.
    ends_then (clause_ends descriptor_code s next) (λ y form f g. reaches (le_trans (le_trans a c) f) g)))
    (λ c form d e. reaches d e))

front_inside : (s : List ℕ) (at : ℕ) {x : FrontOf} {n : ℕ} → front_at s at ≡ got x n → (at ≤ n) × (n ≤ length s)
front_inside s at {x} {n} e = go (front_ends s at) e
  where
    go : {o : Read FrontOf} → Ends at (length s) o → o ≡ got x n → (at ≤ n) × (n ≤ length s)
    go stops q = impossible cc
    go (reaches {next = m} a b) q = let same : m ≡ n = cc in (omega arith, omega arith)

module _ (s : List ℕ) (at : ℕ) where
  pub definition_refused : (reach : ℕ) (rows : List ℕ) (line : ℕ) (codes : List ℕ) (base filled : ℕ) {no : Refused} {r : Result (ℕ × ℕ) Refused} → Err no ≡ told front_of (front_at s at) → IsErrAnd r (λ y. y ≡ no) → DefinitionPut reach s at rows rows line codes codes base filled r
  definition_refused reach rows line codes base filled {no} e is =
      let none : definition_at reach s at ≡ refused no.number no.at = definition_is_lem reach s at ∙ rw (told_refused front_of (front_at s at) e) in
      rw (passed is refl)
      (record {
        answer = rw none;
        row_put = λ d end g. impossible cc;
        codes_put = λ d end g. impossible cc;
        rows_kept = refl;
        codes_kept = refl;
      })

  module _ {front : Front} {n : ℕ} (is : Ok (front, n) ≡ told front_of (front_at s at)) where
    pub form_place : {rows codes : List ℕ} {line used filled : ℕ} → RowRoom s rows codes at line used filled → RowRoom s rows codes n line used filled
    form_place place =
        let (x, read, same) = told_got front_of (front_at s at) is in
        let inside = front_inside s at read in
        record {
          room = record { behind = le_trans place.room.behind inside.0; inside = inside.1; enough = omega (arith, place.room.enough, inside.0); small = place.room.small };
          behind = omega (arith, place.behind, inside.0);
          line = place.line;
        }

    same_row : (x : FrontOf) (k : Form) (reach used end : ℕ) → front ≡ front_of x → front_row front at reach used (kept_form k) end ≡ map low (row used (kept_definition (defined x k at end reach)))
    unfolding row_of row kept_definition
    same_row x k reach used end same = rw same

    definition_read : {reach line base filled : ℕ} {rows rows' codes codes' : List ℕ} {q : Result (ℕ × ℕ) Refused} (x : FrontOf) → front_at s at ≡ got x n → front ≡ front_of x → FormedRead (front_row front at reach (base + filled)) s n rows rows' line codes codes' filled q → DefinitionPut reach s at rows rows' line codes codes' base filled q
    definition_read {reach} {line} {base} {filled} {rows} {rows'} {codes} {codes'} {q} x read same b =
        record {
          answer = b.answer ∙ answered (form_at s n) ∙ ap (definition_is filled) (sym whole);
          row_put = λ y end h. put (form_at s n) refl y end (sym whole ∙ h);
          codes_put = λ y end h. coded (form_at s n) refl y end (sym whole ∙ h);
          rows_kept = b.rows_kept;
          codes_kept = b.codes_kept;
        }
      where
        whole : definition_at reach s at ≡ then (form_at s n) (λ k end. got (defined x k at end reach) end)
        whole = definition_is_lem reach s at ∙ rw read

        answered : (o : Read Form) → formed_is filled o ≡ definition_is filled (then o (λ k end. got (defined x k at end reach) end))
        answered (got k end) = refl
        answered (refused m p) = refl

        put : (o : Read Form) → form_at s n ≡ o → (y : Definition) (end : ℕ) → then o (λ k stop. got (defined x k at stop reach) stop) ≡ got y end → Puts rows rows' line (map low (row (base + filled) (kept_definition y)))
        put (refused m p) u y end h = impossible cc
        put (got k stop) u y end h =
            let it : defined x k at stop reach ≡ y = cc in
            rw (← it, ← same_row x k reach (base + filled) stop same) (b.row_put k stop u)

        coded : (o : Read Form) → form_at s n ≡ o → (y : Definition) (end : ℕ) → then o (λ k stop. got (defined x k at stop reach) stop) ≡ got y end → Puts codes codes' filled (form_codes (kept_form y.form))
        coded (refused m p) u y end h = impossible cc
        coded (got k stop) u y end h = let it : defined x k at stop reach ≡ y = cc in rw (← it) (b.codes_put k stop u)

    pub definition_got : {reach line base filled : ℕ} {rows rows' codes codes' : List ℕ} {q : Result (ℕ × ℕ) Refused} → FormedRead (front_row front at reach (base + filled)) s n rows rows' line codes codes' filled q → DefinitionPut reach s at rows rows' line codes codes' base filled q
    definition_got b = let (x, read, same) = told_got front_of (front_at s at) is in definition_read x read same b

pub used_fits : {s rows codes : List ℕ} {at line used filled : ℕ} → RowRoom s rows codes at line used filled → Fits w64 used
used_fits place = record { fits = omega (arith, place.behind, place.room.inside, place.room.small) }

-- a definition's codes took a byte each
pub definition_ahead : (reach : ℕ) (s : List ℕ) (at : ℕ) {y : Definition} {end : ℕ} → definition_at reach s at ≡ got y end → at + length (form_codes (kept_form y.form)) < end
definition_ahead reach s at {y} {end} e = go (front_at s at) refl (sym (definition_is_lem reach s at) ∙ e)
  where
    more : (x : FrontOf) (n : ℕ) → at ≤ n → (o : Read Form) → form_at s n ≡ o → then o (λ f stop. got (defined x f at stop reach) stop) ≡ got y end → at + length (form_codes (kept_form y.form)) < end
    more x n h (refused k p) u q = impossible cc
    more x n h (got f stop) u q =
        let same : defined x f at stop reach ≡ y = cc in
        let there : stop ≡ end = cc in
        let long : length (form_codes (kept_form f)) ≡ length (form_codes (kept_form y.form)) = ap (λ (d : Definition). length (form_codes (kept_form d.form))) same in
        let k = form_ahead s n u in
        omega arith

    go : (o : Read FrontOf) → front_at s at ≡ o → then o (λ x form. then (form_at s form) (λ f stop. got (defined x f at stop reach) stop)) ≡ got y end → at + length (form_codes (kept_form y.form)) < end
    go (refused k p) u q = impossible cc
    go (got x n) u q = more x n (front_inside s at u).0 (form_at s n) refl q
