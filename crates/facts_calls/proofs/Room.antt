-- The table of an allowed library and section fits its three buffers: at most 1,024 rows of 16 words, and for each section fewer codes
-- than bytes.
use Prim.Native.Nat.{ℕ, ◌+◌, ◌*◌, ◌≤◌, ◌<◌}
use native.Mathlib.Omega.{arith}
use mathlib.Core.Path.{◌≡◌, sym, ◌∙◌, ap}
use mathlib.Core.List.{List, ◌++◌}
use lib.ListN.{length, length-append, take, drop}
use lib.Seq.{take-append_seam, drop-append_seam}
use Rattle.scope.specs.Lists.{joined}
use Rattle.scope.specs.Layout.{row_span, rows_size, codes_size}
use Rattle.scope.specs.Syntax.{Definition}
use Rattle.scope.specs.Judging.{Joined}
use Rattle.scope.specs.Memory.{filled, starts_of, ends_of, rows_from, library_types, addon_types, joined_rows, joined_shared, joined_codes}
use Rattle.facts_sections.specs.Allowed.{Allowed}
use Rattle.facts_calls.specs.Lent.{TableSuffices}
use Rattle.facts_calls.specs.Zero.{ZeroBeyond}
use Rattle.facts_calls.proofs.VeryBytes.{rows-length}
use Rattle.facts_calls.proofs.Zero.{filled-beyond}
use Rattle.facts_calls.proofs.RowTells.{section_long}

pub record TableFits (j : Joined) : Type 0 where
  pub rows : length (joined_rows j) ≤ rows_size
  pub shared : length (joined_shared j) ≤ codes_size
  pub codes : length (joined_codes j) ≤ codes_size

pub table_fits : {library s : List ℕ} (j : Joined) → Allowed library s j → TableFits j
table_fits j a =
    let own : library_types j ≡ a.shared = ap (λ (k : Joined). take k.before k.types) (sym a.joins) ∙ take-append_seam a.shared (joined a.groups) in
    let rest : addon_types j ≡ joined a.groups = ap (λ (k : Joined). drop k.before k.types) (sym a.joins) ∙ drop-append_seam a.shared (joined a.groups) in
    let few : length (joined_shared j) < codes_size = rw (own, ← a.library_allowed.types) (section_long a.library_allowed.section) in
    let more : length (joined_codes j) < codes_size = rw rest (section_long a.section) in
    let starts = starts_of j.types in
    let ends = ends_of j.types in
    let one = rows_from starts ends 0 codes_size (library_types j) in
    let two = rows_from starts ends (length (library_types j)) 0 (addon_types j) in
    let lengths : length (joined_rows j) ≡ length one + length two = length-append one two in
    let a-rows : length one ≡ length (library_types j) * row_span = rows-length starts ends (library_types j) 0 codes_size in
    let b-rows : length two ≡ length (addon_types j) * row_span = rows-length starts ends (addon_types j) (length (library_types j)) 0 in
    let a-many : length (library_types j) ≡ length a.shared = ap length own in
    let b-many : length (addon_types j) ≡ length (joined a.groups) = ap length rest in
    let together = a.section.sizes.types in
    record { rows = omega (arith, lengths, a-rows, b-rows, a-many, b-many, together); shared = omega (arith, few); codes = omega (arith, more) }

-- and so what holds the table's words is zero beyond them, and as long as before

module _ {library s : List ℕ} {rows shared codes rows' shared' codes' : List ℕ} where
  pub table-beyond : (j : Joined) → TableSuffices rows shared codes → Allowed library s j
      → rows' ≡ filled rows (joined_rows j) → shared' ≡ filled shared (joined_shared j) → codes' ≡ filled codes (joined_codes j)
      → ZeroBeyond (joined_rows j) rows rows' × ZeroBeyond (joined_shared j) shared shared' × ZeroBeyond (joined_codes j) codes codes'
  table-beyond j t a p q r =
      let fits = table_fits j a in
      let x : length (joined_rows j) ≤ length rows = omega (arith, fits.rows, t.rows_fit) in
      let y : length (joined_shared j) ≤ length shared = omega (arith, fits.shared, t.shared_fit) in
      let z : length (joined_codes j) ≤ length codes = omega (arith, fits.codes, t.codes_fit) in
      (filled-beyond x p, filled-beyond y q, filled-beyond z r)
