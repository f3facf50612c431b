-- The definitions of a group. The loop and the definition `entries` walk the same bytes; the rows and the codes that were put
-- are those of the definitions that are done, each behind those before it.
use Prim.Native.Nat.{ℕ, ◌+◌, ◌-◌, ◌*◌, ◌≤◌, ◌<◌}
use mathlib.Core.Path.{◌≡◌, refl, ap, ap₂, ◌∙◌}
use mathlib.Core.List.{List, [], ◌∷◌, ◌++◌, map, append-nil, map-append}
use native.Mathlib.Omega.{arith}
use lib.ListN.{length, length-append, length-map}
use mir.Syntax.{w64}
use mir.Val.{Fits}
use Rattle.scope.specs.Told.{no_at}
use Rattle.std.specs.Prelude.{Result, Ok, Err, IsErrAnd}
use Rattle.scope.specs.declared.Refused.{Refused}
use Rattle.scope.specs.Layout.{row_span, codes_size}
use Rattle.scope.specs.Refusals.{oversize}
use Rattle.scope.specs.Sizes.{most_types}
use Rattle.scope.specs.Reading.{got, refused, entries}
use Rattle.scope.specs.Syntax.{Definition}
use Rattle.scope.specs.Sections.{definition_at}
use Rattle.scope.specs.Memory.{form_codes}
use Rattle.scope.proofs.Forward.{definition_takes, never_back}
use Rattle.scope.proofs.Impossible.{impossible}
use Rattle.scope.proofs.Told.{told_got, told_refused, passed}
use Rattle.type_table.specs.Kept.{kept_form, kept_definition}
use Rattle.type_table.specs.View.{row, rows_of, codes_of}
use Rattle.type_table.proofs.Puts.{Puts, puts_none, puts_more, puts_length}
use Rattle.type_table.proofs.Growing.{rows-length, codes-append, rows_append}
use Rattle.section_forms.specs.Reads.{Room}
use Rattle.section_forms.proofs.Lists.{onto, onto-none, onto_more, entries-step, entries_refused, entries_over, entries-done}
use Rattle.section_definition.specs.Rows.{low, RowRoom, full_by, DefinitionPut}
use Rattle.section_definition.proofs.Defining.{definition_ahead}
use Rattle.section_group.specs.declared.Group.{Group}
use Rattle.section_group.specs.Lent.{Lent, entries_at, kept_all, GroupPut}

pub record Grouped (reach first n : ℕ) (s : List ℕ) (at : ℕ) (rows₀ rows codes₀ codes : List ℕ) (used next count filled : ℕ) : Type 0 where
  pub done : List Definition
  pub counted : length done ≡ count
  pub fewer : count ≤ n
  pub few : first + count ≤ most_types
  pub same : entries_at reach first n s at ≡ onto done (entries (definition_at reach) (most_types - first - count) (n - count) s next)
  pub fills : filled ≡ length (codes_of (kept_all done))
  pub rows_put : Puts rows₀ rows 0 (map low (rows_of used (kept_all done)))
  pub codes_put : Puts codes₀ codes 0 (codes_of (kept_all done))
  pub room : Room s codes next filled
  pub behind : used + filled ≤ codes_size + next

pub grouped_first : {s rows codes : List ℕ} {at first used : ℕ} (reach n : ℕ) → Lent s rows codes at first used → Grouped reach first n s at rows rows codes codes used at 0 0
unfolding rows_of codes_of
grouped_first {s} {rows} {codes} {at} {first} {used} reach n lent =
    record {
      done = [];
      counted = refl;
      fewer = omega arith;
      few = omega (arith, lent.few);
      same =
          let a : n - 0 ≡ n = omega arith in
          let b : most_types - first - 0 ≡ most_types - first = omega arith in
          rw (a, b) (onto-none (entries_at reach first n s at));
      fills = refl;
      rows_put = puts_none rows 0 (omega arith);
      codes_put = puts_none codes 0 (omega arith);
      room = lent.room;
      behind = omega (arith, lent.behind);
    }

pub one_row : (used : ℕ) (d : Definition) → rows_of used (kept_definition d ∷ []) ≡ row used (kept_definition d)
unfolding rows_of
one_row used d = append-nil (row used (kept_definition d))

pub one-codes : (d : Definition) → codes_of (kept_definition d ∷ []) ≡ form_codes (kept_form d.form)
unfolding codes_of kept_definition
one-codes d = append-nil (form_codes (kept_form d.form))

more_rows : (used : ℕ) (ds : List Definition) (d : Definition) → map low (rows_of used (kept_all (ds ++ d ∷ []))) ≡ map low (rows_of used (kept_all ds)) ++ map low (row (used + length (codes_of (kept_all ds))) (kept_definition d))
more_rows used ds d =
    let kept = kept_all ds in
    ap (λ es. map low (rows_of used es)) (map-append kept_definition ds (d ∷ []))
    ∙ ap (map low) (rows_append used kept (kept_definition d ∷ []) ∙ ap (λ rs. rows_of used kept ++ rs) (one_row (used + length (codes_of kept)) d))
    ∙ map-append low (rows_of used kept) (row (used + length (codes_of kept)) (kept_definition d))

more_codes : (ds : List Definition) (d : Definition) → codes_of (kept_all (ds ++ d ∷ [])) ≡ codes_of (kept_all ds) ++ form_codes (kept_form d.form)
more_codes ds d =
    ap codes_of (map-append kept_definition ds (d ∷ []))
    ∙ codes-append (kept_all ds) (kept_definition d ∷ [])
    ∙ ap (λ cs. codes_of (kept_all ds) ++ cs) (one-codes d)

pub rows-done : (used : ℕ) (ds : List Definition) → length (map low (rows_of used (kept_all ds))) ≡ row_span * length ds
rows-done used ds = length-map (rows_of used (kept_all ds)) low ∙ rows-length used (kept_all ds) ∙ ap (λ (n : ℕ). row_span * n) (length-map ds kept_definition)

module _ {reach first n : ℕ} {s : List ℕ} {at : ℕ} {rows₀ rows codes₀ codes : List ℕ} {used next count filled : ℕ} (p : Grouped reach first n s at rows₀ rows codes₀ codes used next count filled) where
  pub grouped_rows_size : length rows ≡ length rows₀
  grouped_rows_size = puts_length p.rows_put

  pub grouped_codes_size : length codes ≡ length codes₀
  grouped_codes_size = puts_length p.codes_put

  pub grouped_done : n ≤ count → let group : Group = record { count = n; used = used + filled } in GroupPut (entries_at reach first n) s at rows₀ rows codes₀ codes used (Ok (group, next))
  grouped_done h =
      let all : entries_at reach first n s at ≡ got (p.done ++ []) next = p.same ∙ ap (onto p.done) (entries-done (definition_at reach) (most_types - first - count) (n - count) s next (omega arith)) in
      let whole : entries_at reach first n s at ≡ got p.done next = all ∙ ap (λ ds. got ds next) (append-nil p.done) in
      let long : length p.done ≡ n = let q = p.counted in let few = p.fewer in omega arith in
      record {
        answer = rw (whole, p.fills, long);
        rows_put = λ ds stop e. let same : p.done ≡ ds = cc in rw (← same) p.rows_put;
        codes_put = λ ds stop e. let same : p.done ≡ ds = cc in rw (← same) p.codes_put;
        rows_kept = grouped_rows_size;
        codes_kept = grouped_codes_size;
      }

  pub grouped_taken-fits : Fits w64 (used + filled)
  grouped_taken-fits = record { fits = omega (arith, p.behind, p.room.inside, p.room.small) }

  pub grouped_number-fits : Fits w64 (first + count)
  grouped_number-fits = let f = p.few in record { fits = omega arith }

  module _ (more : count < n) where
    no_group : {rows' codes' : List ℕ} {no : Refused} → length rows' ≡ length rows₀ → length codes' ≡ length codes₀ → entries_at reach first n s at ≡ refused no.number no.at → GroupPut (entries_at reach first n) s at rows₀ rows' codes₀ codes' used (Err no)
    no_group a b e =
        record {
          answer = rw e;
          rows_put = λ ds stop f. impossible cc;
          codes_put = λ ds stop f. impossible cc;
          rows_kept = a;
          codes_kept = b;
        }

    pub grouped_over : most_types ≤ first + count → GroupPut (entries_at reach first n) s at rows₀ rows codes₀ codes used (Err (no_at oversize next))
    grouped_over h =
        no_group grouped_rows_size grouped_codes_size
        (p.same ∙ ap (onto p.done) (entries_over (definition_at reach) (most_types - first - count) (n - count) s next (omega arith) (omega arith)))

    module _ (space : first + count < most_types) where
      pub grouped_line_fits : Fits w64 (row_span * count)
      grouped_line_fits = record { fits = omega arith }

      pub grouped_place : Lent s rows₀ codes₀ at first used → RowRoom s rows codes next (row_span * count) (used + filled) filled
      grouped_place lent =
          let size = grouped_rows_size in
          let lines = lent.lines in
          record { room = p.room; behind = p.behind; line = omega arith }

      pub grouped_refused : {rows' codes' : List ℕ} {no : Refused} {r : Result (Group × ℕ) Refused} → DefinitionPut reach s next rows rows' (row_span * count) codes codes' used filled (Err no) → IsErrAnd r (λ y. y ≡ no) → GroupPut (entries_at reach first n) s at rows₀ rows' codes₀ codes' used r
      grouped_refused a is =
          rw (passed is refl)
          (no_group (a.rows_kept ∙ grouped_rows_size) (a.codes_kept ∙ grouped_codes_size)
          (p.same
          ∙ ap (onto p.done) (entries_refused (definition_at reach) (most_types - first - count) (n - count) s next (omega arith) (omega arith) (told_refused (full_by filled) (definition_at reach s next) a.answer))))

      module _ {rows' codes' : List ℕ} {after later : ℕ} (a : DefinitionPut reach s next rows rows' (row_span * count) codes codes' used filled (Ok (later, after))) where
        defined_turn : (d : Definition) → definition_at reach s next ≡ got d after → later ≡ filled + length (form_codes (kept_form d.form)) → Grouped reach first n s at rows₀ rows' codes₀ codes' used after (count + 1) later
        defined_turn d read count-codes =
            let q : length p.done ≡ count = p.counted in
            let t : filled ≡ length (codes_of (kept_all p.done)) = p.fills in
            let ends = never_back (definition_takes reach) s next read in
            let ahead = definition_ahead reach s next read in
            let line : 0 + length (map low (rows_of used (kept_all p.done))) ≡ row_span * count = (let l = rows-done used p.done in omega arith) in
            let put : Puts rows rows' (0 + length (map low (rows_of used (kept_all p.done)))) (map low (row (used + length (codes_of (kept_all p.done))) (kept_definition d))) =
            rw (line, ← t) (a.row_put d after read) in
            let coded : Puts codes codes' (0 + length (codes_of (kept_all p.done))) (form_codes (kept_form d.form)) = (let z : 0 + length (codes_of (kept_all p.done)) ≡ filled = omega arith in rw z (a.codes_put d after read)) in
            let size = a.codes_kept in
            record {
              done = p.done ++ d ∷ [];
              counted = length-append p.done (d ∷ []) ∙ (omega arith);
              fewer = omega arith;
              few = omega arith;
              same =
                  p.same
                  ∙ ap (onto p.done) (entries-step (definition_at reach) (most_types - first - count) (n - count) s next (omega arith) (omega arith) read)
                  ∙ onto_more p.done d (entries (definition_at reach) (most_types - first - count - 1) (n - count - 1) s after)
                  ∙ ap₂ (λ (i j : ℕ). onto (p.done ++ d ∷ []) (entries (definition_at reach) i j s after)) (omega arith) (omega arith);
              fills = (let l : length (codes_of (kept_all (p.done ++ d ∷ []))) ≡ length (codes_of (kept_all p.done)) + length (form_codes (kept_form d.form)) = ap length (more_codes p.done d) ∙ length-append (codes_of (kept_all p.done)) (form_codes (kept_form d.form)) in omega arith);
              rows_put = rw (more_rows used p.done d) (puts_more p.rows_put put);
              codes_put = rw (more_codes p.done d) (puts_more p.codes_put coded);
              room =
                  record {
                    behind = omega (arith, p.room.behind);
                    inside = ends.1;
                    enough = omega (arith, p.room.enough);
                    small = p.room.small;
                  };
              behind = omega (arith, p.behind);
            }

        pub grouped_turn : Grouped reach first n s at rows₀ rows' codes₀ codes' used after (count + 1) later
        grouped_turn = let (d, read, codes-count) = told_got (full_by filled) (definition_at reach s next) a.answer in defined_turn d read codes-count

pub ruleset group_exits = (grouped_first, grouped_rows_size, grouped_codes_size, grouped_done, grouped_taken-fits, grouped_number-fits, grouped_over, grouped_line_fits, grouped_place, grouped_refused, grouped_turn)
