-- The words that are read of accepted types are those that scope's Memory.antt names, but for the ranges. The two rows differ in one word
-- only, a further supertype or how many there are, and both are 0 where there is at most one supertype.
use Prim.Native.Nat.{ℕ, ◌+◌, ◌-◌, ◌≤◌}
use native.Mathlib.Omega.{arith}
use mathlib.Core.Path.{◌≡◌, refl, ap, ap₂}
use mathlib.Core.List.{List, [], ◌∷◌, ◌++◌}
use lib.ListN.{length}
use Rattle.scope.specs.Syntax.{Definition}
use Rattle.scope.specs.Memory.{form_codes, or_zero, row_words, table_codes}
use Rattle.type_table.specs.View.{further_of, row, rows_of, plain_from, codes_of}
use Rattle.type_table.proofs.AtMost.{SupersAtMost, first_few, later_few}

no_further : (supers : List ℕ) → length supers ≤ 1 → or_zero (further_of supers) ≡ length supers - 1
no_further [] h = refl
no_further (x ∷ []) h = refl
no_further (x ∷ y ∷ more) h = absurd (omega arith)

single-row : (first : ℕ) (d : Definition) → length d.supers ≤ 1 → row first d ≡ row_words first 0 0 d
unfolding row row_words
single-row first d h = rw (no_further d.supers h)

pub single-rows : (first : ℕ) (ds : List Definition) → SupersAtMost 1 ds → rows_of first ds ≡ plain_from first ds
unfolding rows_of plain_from
single-rows first [] few = refl
single-rows first (d ∷ ds) few = ap₂ ◌++◌ (single-row first d (first_few few)) (single-rows (first + length (form_codes d.form)) ds (later_few few))

pub table-codes : (ds : List Definition) → codes_of ds ≡ table_codes ds
unfolding codes_of
table-codes [] = refl
table-codes (d ∷ ds) = ap (λ cs. form_codes d.form ++ cs) (table-codes ds)
