-- Two sections read one after the other into rows that were zero: the rows of the add-on follow the library's, each section's
-- codes stand first in a buffer of their own, and the table says the joined list of types, as it is kept.
use Prim.Native.Nat.{ℕ, ◌+◌, ◌-◌, ◌*◌, ◌≤◌}
use mathlib.Core.Path.{◌≡◌, sym, ap, ◌∙◌}
use mathlib.Core.List.{List, [], ◌++◌, append_assoc, append-nil, map-append}
use native.Mathlib.Nat.{zero-add}
use native.Mathlib.Omega.{arith}
use lib.ListN.{length, drop, replicate, length-map}
use Rattle.std.specs.Prelude.{Result}
use Rattle.scope.specs.declared.Refused.{Refused}
use Rattle.scope.specs.Sizes.{most_types}
use Rattle.scope.specs.Layout.{row_span, codes_size}
use Rattle.scope.specs.Reading.{got}
use Rattle.scope.specs.Lists.{joined}
use Rattle.scope.specs.Sections.{read_after}
use Rattle.scope.specs.Syntax.{Definition, Group, types_of}
use Rattle.scope.specs.Judging.{judge_types}
use Rattle.type_table.specs.Kept.{kept_definition}
use Rattle.type_table.specs.View.{view, rows_of, codes_of, both_codes}
use Rattle.type_table.proofs.Puts.{Puts, puts_more, puts_zero}
use Rattle.type_table.proofs.AtMost.{kept_few}
use Rattle.type_table.proofs.Growing.{rows-length}
use Rattle.type_table.proofs.KeptVerdict.{ReachWithin, kept-verdict}
use Rattle.type_table.proofs.TwoSections.{two_sections}
use Rattle.section_group.specs.Lent.{kept_all}
use Rattle.section_reader.specs.Whole.{SectionPut}
use Rattle.section_reader.proofs.Modest.{read_fits, read_lengths, read_reach, each_reach, each_append}
use Rattle.section_reader.proofs.LowTable.{low-table}

-- the library alone

module _ (library : List ℕ) (R : ℕ) (shared codes : List ℕ) {rows₂ shared₂ : List ℕ} {q : Result ℕ Refused} (gs : List Group) {end : ℕ}
    (a : SectionPut (read_after 0 library) 0 codes_size (replicate R 0) rows₂ shared shared₂ q) (read : read_after 0 library ≡ got gs end) where
  first_rows : Puts (replicate R 0) rows₂ 0 (rows_of codes_size (kept_all (joined gs)))
  first_rows = rw (low-table 0 codes_size (omega arith) (omega arith) library read) at (a.rows_put gs end read)

  -- codes that were put stand first, and what was there before stands after them
  pub shared-codes : shared₂ ≡ codes_of (kept_all (joined gs)) ++ drop (length (codes_of (kept_all (joined gs)))) shared
  shared-codes = (a.codes_put gs end read).is ∙ simp zero-add

  pub one_viewed : view rows₂ (both_codes shared₂ codes) ≡ types_of (kept_all (joined gs))
  unfolding rows_of codes_of
  one_viewed =
      let ls : List Definition = kept_all (joined gs) in
      let none : ls ++ [] ≡ ls = append-nil ls in
      let few = rw (sym none) at (kept_few (joined gs)) in
      let left : ℕ = R - length (rows_of codes_size ls) in
      rw (puts_zero R first_rows, shared-codes) (two_sections ls [] left codes (drop (length (codes_of ls)) shared) (omega arith) few ∙ ap types_of none)

  -- the verdict on it is the verdict on the library's types
  pub one-judged : judge_types (view rows₂ (both_codes shared₂ codes)) (length (joined gs)) ≡ judge_types (types_of (joined gs)) (length (joined gs))
  one-judged = ap (λ ts. judge_types ts (length (joined gs))) one_viewed ∙ kept-verdict (joined gs) (read_reach 0 (omega arith) library read)

-- both

module _ (library section : List ℕ) (R : ℕ) (shared codes : List ℕ) {rows₂ rows₃ shared₂ codes₂ : List ℕ} {q q' : Result ℕ Refused} (gs gs' : List Group) {end end' : ℕ}
    (a : SectionPut (read_after 0 library) 0 codes_size (replicate R 0) rows₂ shared shared₂ q) (read : read_after 0 library ≡ got gs end)
    (b : SectionPut (read_after (length (joined gs)) section) (length (joined gs)) 0 rows₂ rows₃ codes codes₂ q') (read' : read_after (length (joined gs)) section ≡ got gs' end') where
  few : length (joined gs) ≤ most_types
  few = let l = read_lengths 0 (omega arith) library read in omega (arith, l.0)

  pub two-rows : rows₃ ≡ rows_of codes_size (kept_all (joined gs)) ++ (rows_of 0 (kept_all (joined gs')) ++ replicate (R - length (rows_of codes_size (kept_all (joined gs)) ++ rows_of 0 (kept_all (joined gs')))) 0)
  two-rows =
      let start : Puts (replicate R 0) rows₂ 0 (rows_of codes_size (kept_all (joined gs))) = first_rows library R shared codes gs a read in
      let then : Puts rows₂ rows₃ (row_span * length (joined gs)) (rows_of 0 (kept_all (joined gs'))) = rw (low-table (length (joined gs)) 0 few (omega arith) section read') at (b.rows_put gs' end' read') in
      let place : 0 + length (rows_of codes_size (kept_all (joined gs))) ≡ row_span * length (joined gs) = (let r = rows-length codes_size (kept_all (joined gs)) in let m = length-map (joined gs) kept_definition in omega (arith, r, m)) in
      puts_zero R (puts_more start (rw place then)) ∙ append_assoc (rows_of codes_size (kept_all (joined gs))) (rows_of 0 (kept_all (joined gs'))) _

  pub own_codes : codes₂ ≡ codes_of (kept_all (joined gs')) ++ drop (length (codes_of (kept_all (joined gs')))) codes
  own_codes = (b.codes_put gs' end' read').is ∙ simp zero-add

  -- what the table says
  pub two_viewed : view rows₃ (both_codes shared₂ codes₂) ≡ types_of (kept_all (joined gs) ++ kept_all (joined gs'))
  two_viewed =
      let ls : List Definition = kept_all (joined gs) in
      let ds : List Definition = kept_all (joined gs') in
      let l = read_lengths (length (joined gs)) few section read' in
      let few2 = rw (map-append kept_definition (joined gs) (joined gs')) at (kept_few (joined gs ++ joined gs')) in
      let left : ℕ = R - length (rows_of codes_size ls ++ rows_of 0 ds) in
      rw (two-rows, shared-codes library R shared codes gs a read, own_codes) (two_sections ls ds left (drop (length (codes_of ds)) codes) (drop (length (codes_of ls)) shared) (omega (arith, l.1)) few2)

  pub two_reach : ReachWithin (types_of (joined gs ++ joined gs'))
  two_reach =
      record { low = each_reach (each_append (read_fits 0 (omega arith) library read).each (read_fits (length (joined gs)) few section read').each) }

  -- the verdict on it is the verdict on the joined list
  pub two-judged : judge_types (view rows₃ (both_codes shared₂ codes₂)) (length (joined gs ++ joined gs')) ≡ judge_types (types_of (joined gs ++ joined gs')) (length (joined gs ++ joined gs'))
  two-judged =
      ap (λ ts. judge_types ts (length (joined gs ++ joined gs'))) (two_viewed ∙ ap types_of (sym (map-append kept_definition (joined gs) (joined gs'))))
      ∙ kept-verdict (joined gs ++ joined gs') two_reach
