-- Asking for a type. The sections are judged first; where they are accepted, what the table says of a number is the type itself,
-- so the places that are read there are the definition's.
use Prim.Native.Nat.{ℕ, ◌-◌, ◌≤◌, ◌<◌}
use mathlib.Core.Path.{◌≡◌, refl, sym, ap, ap₂, ◌∙◌}
use mathlib.Core.Bool.{Bool, true, false, cond}
use mathlib.Core.List.{List, ◌++◌}
use native.Mathlib.Omega.{arith}
use lib.ListN.{length, replicate}
use lib.Dec.{ltb, leb}
use borrow.Author.Tests.{lt-ltb, le-ltb}
use Rattle.std.specs.Prelude.{Result, Ok, Err}
use Rattle.scope.specs.declared.Rejected.{Rejected}
use Rattle.scope.specs.Refusals.{out_of_reach}
use Rattle.scope.specs.Layout.{rows_size, codes_size}
use Rattle.scope.specs.Syntax.{Definition, Types, types_of}
use Rattle.scope.specs.Judging.{plain, Judged, accepted, rejected, and_then, Joined, judge_joined, Held, held_at, ask_type, part_of}
use Rattle.scope.specs.Memory.{filled, joined_rows, joined_shared, joined_codes}
use Rattle.scope.specs.Answers.{holds, table_lent, lent_enough, verdict_of, lent_after, counted, section_call, SectionJudged, ask_call, asked_of, ask_table, TypeAsked, TypeHanded}
use Rattle.scope.specs.declared.Place.{Place}
use Rattle.scope.specs.declared.Asked.{Asked}
use Rattle.scope.specs.declared.Asked
use Rattle.scope.proofs.Impossible.{impossible}
use Rattle.type_table.specs.View.{view, both_codes}
use Rattle.section_handing.specs.Handing.{Cleared, asked_at, bytes_named}
use Rattle.section_handing.proofs.Places.{lying_at, asked_library, asked_addon, asked-refusal}
use Rattle.section_both.specs.Both.{joined_is}
use Rattle.section_both.proofs.Viewing.{both_refused, both_accepted, filled_viewed}
use Rattle.section_call.specs.Calls.{TableJudged}

-- asking is judging, and then the number

abbrev asks_at : ℕ → Joined → Judged Held
asks_at x j = cond (ltb x (length j.types)) (accepted (held_at j x)) (rejected out_of_reach (plain x))

ask_is : (library section : List ℕ) (x : ℕ) (rows shared codes : List ℕ) → ask_call library section x rows shared codes ≡ and_then (section_call library section rows shared codes) (asks_at x)
unfolding ask_type
ask_is library section x rows shared codes = go (table_lent rows shared codes)
  where
    go : (t : Bool) → lent_enough t (and_then (judge_joined library section) (asks_at x)) ≡ and_then (lent_enough t (judge_joined library section)) (asks_at x)
    go true = refl
    go false = refl

-- a call that is accepted judged the sections

call_accepted : (library section rows shared codes : List ℕ) {j : Joined} → section_call library section rows shared codes ≡ accepted j → judge_joined library section ≡ accepted j
call_accepted library section rows shared codes {j} e = go (table_lent rows shared codes) e
  where
    go : (t : Bool) → lent_enough t (judge_joined library section) ≡ accepted j → judge_joined library section ≡ accepted j
    go true f = f
    go false f = impossible cc

-- what the table says
module _ (library section rows shared codes : List ℕ) {rows₁ shared₁ codes₁ : List ℕ} (j : Joined) (yes-section : section_call library section rows shared codes ≡ accepted j)
    (r : rows₁ ≡ lent_after joined_rows rows (section_call library section rows shared codes))
    (s : shared₁ ≡ lent_after joined_shared shared (section_call library section rows shared codes))
    (c : codes₁ ≡ lent_after joined_codes codes (section_call library section rows shared codes)) where
  table_says : view rows₁ (both_codes shared₁ codes₁) ≡ types_of j.types
  table_says =
      filled_viewed library section rows shared codes
      (call_accepted library section rows shared codes yes-section)
      (r ∙ ap (lent_after joined_rows rows) yes-section)
      (s ∙ ap (lent_after joined_shared shared) yes-section)
      (c ∙ ap (lent_after joined_codes codes) yes-section)

-- the side of what lies there
lying-asked : (ts : Types) (x before : ℕ) (ds : List Definition) → ts ≡ types_of ds → lying_at ts x (ltb x before) ≡ asked_of (accepted (held_at (record { before = before; types = ds }) x))
lying-asked ts x before ds e = rw e

module _ {library section rows shared codes rows₁ shared₁ codes₁ : List ℕ} {v : Result (ℕ × ℕ) Rejected} (a : TableJudged library section rows shared codes rows₁ shared₁ codes₁ v) where
  pub asked_refused : (x : ℕ) {no : Rejected} → v ≡ Err no → TypeAsked library section x rows shared codes rows₁ shared₁ codes₁ (Asked.TheVariants.Refused no.number no.place)
  asked_refused x {no} e =
      let no-section : section_call library section rows shared codes ≡ rejected no.number no.place = both_refused (section_call library section rows shared codes) a.answer e in
      let no-type : ask_call library section x rows shared codes ≡ rejected no.number no.place = ask_is library section x rows shared codes ∙ rw no-section in
      let no_table : ask_table library section x rows shared codes ≡ rejected no.number no.place = rw no-section in
      record {
        answer = rw no-type;
        rows_after = a.rows_after ∙ ap (lent_after joined_rows rows) (no-section ∙ sym no_table);
        shared_after = a.shared_after ∙ ap (lent_after joined_shared shared) (no-section ∙ sym no_table);
        codes_after = a.codes_after ∙ ap (lent_after joined_codes codes) (no-section ∙ sym no_table);
      }

  module _ (j : Joined) (yes-section : section_call library section rows shared codes ≡ accepted j) where
    type_there : {x : ℕ} {q : Asked} → x < length j.types → q ≡ lying_at (view rows₁ (both_codes shared₁ codes₁)) x (ltb x j.before) → TypeAsked library section x rows shared codes rows₁ shared₁ codes₁ q
    type_there {x} h lies =
        let there : ask_call library section x rows shared codes ≡ accepted (held_at j x) = ask_is library section x rows shared codes ∙ rw (yes-section, lt-ltb x (length j.types) h) in
        let whole : ask_table library section x rows shared codes ≡ accepted j = rw (yes-section, there) in
        let says = table_says library section rows shared codes j yes-section a.rows_after a.shared_after a.codes_after in
        record {
          answer = lies ∙ lying-asked (view rows₁ (both_codes shared₁ codes₁)) x j.before j.types says ∙ ap asked_of (sym there);
          rows_after = a.rows_after ∙ ap (lent_after joined_rows rows) (yes-section ∙ sym whole);
          shared_after = a.shared_after ∙ ap (lent_after joined_shared shared) (yes-section ∙ sym whole);
          codes_after = a.codes_after ∙ ap (lent_after joined_codes codes) (yes-section ∙ sym whole);
        }

    type-absent : {x : ℕ} {rows₂ shared₂ codes₂ : List ℕ} → length j.types ≤ x → length rows₁ ≡ length rows → length shared₁ ≡ length shared → length codes₁ ≡ length codes
        → Cleared rows₁ shared₁ codes₁ rows₂ shared₂ codes₂ → TypeAsked library section x rows shared codes rows₂ shared₂ codes₂ (Asked.TheVariants.Refused out_of_reach (plain x))
    type-absent {x} h same_rows same-shared same_codes c =
        let absent : ask_call library section x rows shared codes ≡ rejected out_of_reach (plain x) = ask_is library section x rows shared codes ∙ rw (yes-section, le-ltb x (length j.types) h) in
        let no_table : ask_table library section x rows shared codes ≡ rejected out_of_reach (plain x) = rw (yes-section, absent) in
        record {
          answer = rw absent;
          rows_after = rw no_table (c.rows_after ∙ ap (λ (n : ℕ). replicate n 0) same_rows);
          shared_after = rw no_table (c.shared_after ∙ ap (λ (n : ℕ). replicate n 0) same-shared);
          codes_after = rw no_table (c.codes_after ∙ ap (λ (n : ℕ). replicate n 0) same_codes);
        }

  module _ (x : ℕ) {before n : ℕ} (e : v ≡ Ok (before, n)) {q : Asked} (b : q ≡ asked_at (view rows₁ (both_codes shared₁ codes₁)) x before n) where
    -- an answer that lies somewhere
    lies_there : x < n → q ≡ lying_at (view rows₁ (both_codes shared₁ codes₁)) x (ltb x before) → TypeAsked library section x rows shared codes rows₁ shared₁ codes₁ q
    lies_there h is =
        let (j, yes-section, first, many) = both_accepted (section_call library section rows shared codes) a.answer e in
        type_there j yes-section (omega (arith, many)) (is ∙ ap (λ (k : ℕ). lying_at (view rows₁ (both_codes shared₁ codes₁)) x (ltb x k)) first)

    pub asked_in_library : {f t : ℕ} → q ≡ Asked.TheVariants.Library f t → TypeAsked library section x rows shared codes rows₁ shared₁ codes₁ (Asked.TheVariants.Library f t)
    asked_in_library f = let lies = asked_library (view rows₁ (both_codes shared₁ codes₁)) x before n b f in rw f at (lies_there lies.number lies.is)

    pub asked_in_addon : {f t : ℕ} → q ≡ Asked.TheVariants.Addon f t → TypeAsked library section x rows shared codes rows₁ shared₁ codes₁ (Asked.TheVariants.Addon f t)
    asked_in_addon f = let lies = asked_addon (view rows₁ (both_codes shared₁ codes₁)) x before n b f in rw f at (lies_there lies.number lies.is)

    pub asked-absent : {k : ℕ} {p : Place} {rows₂ shared₂ codes₂ : List ℕ} → length rows₁ ≡ length rows → length shared₁ ≡ length shared → length codes₁ ≡ length codes
        → q ≡ Asked.TheVariants.Refused k p → Cleared rows₁ shared₁ codes₁ rows₂ shared₂ codes₂ → TypeAsked library section x rows shared codes rows₂ shared₂ codes₂ (Asked.TheVariants.Refused k p)
    asked-absent same_rows same-shared same_codes f c =
        let (j, yes-section, first, many) = both_accepted (section_call library section rows shared codes) a.answer e in
        let none = asked-refusal (view rows₁ (both_codes shared₁ codes₁)) x before n b f in
        rw (none.refusal, none.place) (type-absent j yes-section (omega (arith, none.number, many)) same_rows same-shared same_codes c)

pub ruleset ask_exits = (asked_refused, asked_in_library, asked_in_addon, asked-absent)

-- type_bytes: the bytes that the answer names are the definition's

named-held : (library section : List ℕ) (d : Definition) (side : Bool) → bytes_named library section (asked_of (accepted (record { of_library = side; definition = d }))) ≡ part_of library section (accepted (record { of_library = side; definition = d }))
unfolding bytes_named
named-held library section d true = refl
named-held library section d false = refl

named-asked : (library section : List ℕ) (o : Judged Held) → bytes_named library section (asked_of o) ≡ part_of library section o
unfolding bytes_named
named-asked library section (accepted h) = named-held library section h.definition h.of_library
named-asked library section (rejected k p) = refl

pub handed-bytes : {library section rows shared codes rows₁ shared₁ codes₁ : List ℕ} {x : ℕ} {r : Asked} {q : List ℕ} → TypeAsked library section x rows shared codes rows₁ shared₁ codes₁ r
    → q ≡ bytes_named library section r → TypeHanded library section x rows shared codes rows₁ shared₁ codes₁ q
handed-bytes {library} {section} {rows} {shared} {codes} {x = x} a b =
    record {
      bytes = b ∙ ap (bytes_named library section) a.answer ∙ named-asked library section (ask_call library section x rows shared codes);
      rows_after = a.rows_after;
      shared_after = a.shared_after;
      codes_after = a.codes_after;
    }
