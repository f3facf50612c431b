-- What both sections' verdict says when it is taken apart, and what the table of two accepted sections says: the joined list itself.
-- This is what the calls on types, bodies and runs go on with.
use Prim.Native.Nat.{ℕ, ◌+◌, ◌-◌, ◌≤◌, ◌<◌}
use mathlib.Core.Path.{◌≡◌, refl, sym, ap, ap₂, ◌∙◌}
use mathlib.Core.List.{List, [], ◌∷◌, ◌++◌, append_assoc}
use native.Mathlib.Nat.{zero-add}
use native.Mathlib.Omega.{arith}
use lib.ListN.{length, drop, replicate, length-append}
use lib.Seq.{take-append_seam, drop-append_seam}
use Rattle.std.specs.Prelude.{Result, Ok, Err}
use Rattle.scope.specs.declared.Rejected.{Rejected}
use Rattle.scope.specs.Layout.{codes_size}
use Rattle.scope.specs.Reading.{got}
use Rattle.scope.specs.Lists.{joined}
use Rattle.scope.specs.Syntax.{Definition, Group, types_of}
use Rattle.scope.specs.Memory.{filled, table_codes, starts_of, ends_of, rows_from, joined_rows, joined_shared, joined_codes}
use Rattle.scope.specs.Sections.{read_after}
use Rattle.scope.specs.Judging.{Judged, accepted, rejected, judge_types, Joined, judge_joined}
use Rattle.scope.specs.declared.Place.{Place}
use Rattle.scope.proofs.Accepted.{joined_parts}
use Rattle.scope.proofs.Impossible.{impossible}
use Rattle.scope.proofs.Told.{value_is, place_is, rejected_as}
use Rattle.type_table.specs.Kept.{kept_definition}
use Rattle.type_table.specs.View.{view, rows_of, codes_of, both_codes}
use Rattle.type_table.proofs.Puts.{Puts}
use Rattle.type_table.proofs.AtMost.{SupersAtMost, accepted_few}
use Rattle.type_table.proofs.AcceptedRows.{single-rows, table-codes}
use Rattle.type_table.proofs.KeptVerdict.{ReachWithin}
use Rattle.type_table.proofs.TwoSections.{two_sections, two-table-codes, few_at_lem, few_own}
use Rattle.type_ranges.proofs.Table.{ranged_view}
use Rattle.section_group.specs.Lent.{kept_all}
use Rattle.section_reader.proofs.Modest.{read_fits, read_lengths, each_reach, each_append}
use Rattle.section_both.specs.Both.{joined_is, Stands}

-- the answer, taken apart

pub both_refused : (o : Judged Joined) {v : Result (ℕ × ℕ) Rejected} {no : Rejected} → v ≡ joined_is o → v ≡ Err no → o ≡ rejected no.number no.place
both_refused (accepted j) x y = impossible cc
both_refused (rejected k p) x y = rejected_as x y

pub both_accepted : (o : Judged Joined) {v : Result (ℕ × ℕ) Rejected} {b n : ℕ} → v ≡ joined_is o → v ≡ Ok (b, n) → (j : Joined) × (o ≡ accepted j) × (b ≡ j.before) × (n ≡ length j.types)
both_accepted (accepted j) x y = (j, refl, sym (value_is x y), sym (place_is x y))
both_accepted (rejected k p) x y = impossible cc

-- the table

two_few : {ds : List Definition} → SupersAtMost 1 ds → SupersAtMost 2 ds
two_few p = record { few = λ x. let h = p.few x in omega arith }

module _ (library addon : List ℕ) {rows shared codes rows' shared' codes' : List ℕ} where
  viewed_parts : (gs more : List Group) {end stop many : ℕ} → read_after 0 library ≡ got gs end → read_after (length (joined gs)) addon ≡ got more stop
      → judge_types (types_of (joined gs ++ joined more)) (length (joined gs ++ joined more)) ≡ accepted many
      → Stands rows shared codes rows' shared' codes' (record { before = length (joined gs); types = joined gs ++ joined more })
      → view rows' (both_codes shared' codes') ≡ types_of (joined gs ++ joined more)
  viewed_parts gs more read own kept stands =
      let ls : List Definition = joined gs in
      let ds : List Definition = joined more in
      let few = accepted_few (ls ++ ds) kept in
      let room = (read_lengths 0 (omega arith) library read).0 in
      let bound : ReachWithin (types_of (ls ++ ds)) = record { low = each_reach (each_append (read_fits 0 (omega arith) library read).each (read_fits (length ls) (omega (arith, room)) addon own).each) } in
      let lib : codes_of ls ≡ table_codes ls = table-codes ls in
      let mine : codes_of ds ≡ table_codes ds = table-codes ds in
      let same : length (codes_of (kept_all ds)) ≡ length (table_codes ds) = ap length (two-table-codes ls ds bound kept) in
      let short : length (codes_of ds) ≤ codes_size = (let l = read_lengths (length ls) (omega (arith, room)) addon own in let size = ap length mine in omega (arith, l.1, same, size)) in
      let left : SupersAtMost 1 ls = record { few = few_at_lem ls ds few } in
      let l = take-append_seam ls ds in
      let d = drop-append_seam ls ds in
      let start : ℕ → ℕ = starts_of (ls ++ ds) in
      let end : ℕ → ℕ = ends_of (ls ++ ds) in
      let z : ℕ = length rows - length (rows_from start end 0 codes_size ls ++ rows_from start end (length ls) 0 ds) in
      let r : rows' ≡ rows_from start end 0 codes_size ls ++ (rows_from start end (length ls) 0 ds ++ replicate z 0) =
      (rw (l, d) at stands.rows_is) ∙ append_assoc (rows_from start end 0 codes_size ls) (rows_from start end (length ls) 0 ds) (replicate z 0) in
      let s : shared' ≡ codes_of ls ++ drop (length (codes_of ls)) shared = (rw (l, ← lib) at stands.shared_put).is ∙ simp zero-add in
      let c : codes' ≡ codes_of ds ++ drop (length (codes_of ds)) codes = (rw (d, ← mine) at stands.codes_put).is ∙ simp zero-add in
      let both : List ℕ = both_codes (codes_of ls ++ drop (length (codes_of ls)) shared) (codes_of ds ++ drop (length (codes_of ds)) codes) in
      let plain : view (rows_from start end 0 codes_size ls ++ (rows_from start end (length ls) 0 ds ++ replicate z 0)) both ≡ view (rows_of codes_size ls ++ (rows_of 0 ds ++ replicate z 0)) both =
      ranged_view ls ds z start end both ∙ sym (ap₂ (λ (a b : List ℕ). view (a ++ (b ++ replicate z 0)) both) (single-rows codes_size ls left) (single-rows 0 ds (few_own ls ds few))) in
      rw (r, s, c) (plain ∙ two_sections ls ds z (drop (length (codes_of ds)) codes) (drop (length (codes_of ls)) shared) short (two_few few))

  pub viewed : {j : Joined} → judge_joined library addon ≡ accepted j → Stands rows shared codes rows' shared' codes' j → view rows' (both_codes shared' codes') ≡ types_of j.types
  viewed e stands =
      let p = joined_parts library addon e in
      let types : Joined → List Definition = λ j. j.types in
      viewed_parts p.gs p.more p.read p.read_own p.kept (rw p.is at stands) ∙ ap types_of (sym (ap types p.is))

-- buffers that were filled stand, whatever they are filled up with

filled_put : (buffer words : List ℕ) {m : List ℕ} → m ≡ filled buffer words → Puts m m 0 words
filled_put buffer words e = rw e (record { room = simp (zero-add, length-append) (omega arith); is = simp (zero-add, drop-append_seam) })

pub filled_viewed : (library addon rows shared codes : List ℕ) {rows' shared' codes' : List ℕ} {j : Joined} → judge_joined library addon ≡ accepted j
    → rows' ≡ filled rows (joined_rows j) → shared' ≡ filled shared (joined_shared j) → codes' ≡ filled codes (joined_codes j) → view rows' (both_codes shared' codes') ≡ types_of j.types
filled_viewed library addon rows shared codes {j = j} e r s c =
    viewed library addon {rows = rows} e (record { rows_is = r; shared_put = filled_put shared (joined_shared j) s; codes_put = filled_put codes (joined_codes j) c })
