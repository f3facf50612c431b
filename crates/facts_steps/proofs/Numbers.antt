-- The rules of numbers are the lines that the machine looks up: each line of its table is such an instruction with the kinds that its
-- code has, and each such instruction has its line.
use Prim.Native.Nat.{ℕ}
use mathlib.Core.Path.{◌≡◌, refl, sym, ◌∙◌}
use mathlib.Core.Bool.{Bool, true, false, cond}
use mathlib.Core.Option.{Option, none, some}
use mathlib.Core.List.{List, [], ◌∷◌}
use lib.Dec.{eqb}
use borrow.Author.Tests.{eqb-true}
use Rattle.scope.specs.Syntax.{Number}
use Rattle.scope.specs.Numeric.{Numeric, numeric_of}
use Rattle.scope.specs.Instructions.{find}
use Rattle.scope.specs.Arithmetic.{Deed, of_one, of_two, deeds, deed_of}
use Rattle.scope.proofs.Truths.{none_is_not-some}
use Rattle.scope.proofs.Impossible.{contradiction}
use Rattle.facts_steps.specs.Numbers.{One, Two, i32_eqz, i64_eqz, f32_neg, f64_neg, i32_eq, i32_ne, i32_lt_s, i32_lt_u, i32_gt_s, i32_gt_u, i32_le_s, i32_le_u, i32_ge_s, i32_ge_u, i64_eq, i64_ne, i64_lt_s, i64_lt_u, i64_gt_s, i64_gt_u, i64_le_s, i64_le_u, i64_ge_s, i64_ge_u, f32_eq, f32_ne, f32_lt, f32_gt, f32_le, f32_ge, f64_eq, f64_ne, f64_lt, f64_gt, f64_le, f64_ge, i32_add, i32_sub, i64_add, i64_sub, f32_add, f32_sub, f32_mul, f32_div, f64_add, f64_sub, f64_mul, f64_div}

abbrev kinds_of : ℕ → Number → Number → Numeric
kinds_of n k r = record { operands = n; kind = k; result = r }

-- each line, with its instruction
data Lines : List (ℕ × Deed) → Type 0 where
  no_row_lem : Lines []
  one_row : {b : ℕ} {k r : Number} {f : ℕ → ℕ} {rows : List (ℕ × Deed)} → One b k r f → numeric_of b ≡ some (kinds_of 1 k r) → Lines rows → Lines ((b, of_one f) ∷ rows)
  two_row : {b : ℕ} {k r : Number} {f : ℕ → ℕ → ℕ} {rows : List (ℕ × Deed)} → Two b k r f → numeric_of b ≡ some (kinds_of 2 k r) → Lines rows → Lines ((b, of_two f) ∷ rows)

all_lines : Lines deeds
unfolding numeric_of
all_lines =
    (one_row i32_eqz refl
    (two_row i32_eq refl
    (two_row i32_ne refl
    (two_row i32_lt_s refl
    (two_row i32_lt_u refl
    (two_row i32_gt_s refl
    (two_row i32_gt_u refl
    (two_row i32_le_s refl
    (two_row i32_le_u refl
    (two_row i32_ge_s refl
    (two_row i32_ge_u refl
    (one_row i64_eqz refl
    (two_row i64_eq refl
    (two_row i64_ne refl
    (two_row i64_lt_s refl
    (two_row i64_lt_u refl
    (two_row i64_gt_s refl
    (two_row i64_gt_u refl
    (two_row i64_le_s refl
    (two_row i64_le_u refl
    (two_row i64_ge_s refl
    (two_row i64_ge_u refl
    (two_row f32_eq refl
    (two_row f32_ne refl
    (two_row f32_lt refl
    (two_row f32_gt refl
    (two_row f32_le refl
    (two_row f32_ge refl
    (two_row f64_eq refl
    (two_row f64_ne refl
    (two_row f64_lt refl
    (two_row f64_gt refl
    (two_row f64_le refl
    (two_row f64_ge refl
    (two_row i32_add refl
    (two_row i32_sub refl
    (two_row i64_add refl
    (two_row i64_sub refl
    (one_row f32_neg refl
    (two_row f32_add refl
    (two_row f32_sub refl
    (two_row f32_mul refl
    (two_row f32_div refl
    (one_row f64_neg refl
    (two_row f64_add refl
    (two_row f64_sub refl
    (two_row f64_mul refl
    (two_row f64_div refl
    no_row_lem))))))))))))))))))))))))))))))))))))))))))))))))

-- a deed that was found is an instruction's
pub data Instructed (b : ℕ) : Deed → Type 0 where
  is_one : {k r : Number} {f : ℕ → ℕ} → One b k r f → numeric_of b ≡ some (kinds_of 1 k r) → Instructed b (of_one f)
  is_two : {k r : Number} {f : ℕ → ℕ → ℕ} → Two b k r f → numeric_of b ≡ some (kinds_of 2 k r) → Instructed b (of_two f)

found_line : {rows : List (ℕ × Deed)} → Lines rows → (b : ℕ) (deed : Deed) → find b rows ≡ some deed → Instructed b deed
found_line no_row_lem b deed e = absurd (none_is_not-some e)
found_line (one_row {b = a} {f = f} {rows = rows} o k more) b deed e = go (eqb b a) refl e (λ q. found_line more b deed q)
  where
    go : (t : Bool) → eqb b a ≡ t → cond t (some (of_one f)) (find b rows) ≡ some deed → (find b rows ≡ some deed → Instructed b deed) → Instructed b deed
    go true is e later = let same : of_one f ≡ deed = cc in rw (eqb-true b a is, ← same) (is_one o k)
    go false is e later = later e
found_line (two_row {b = a} {f = f} {rows = rows} o k more) b deed e = go (eqb b a) refl e (λ q. found_line more b deed q)
  where
    go : (t : Bool) → eqb b a ≡ t → cond t (some (of_two f)) (find b rows) ≡ some deed → (find b rows ≡ some deed → Instructed b deed) → Instructed b deed
    go true is e later = let same : of_two f ≡ deed = cc in rw (eqb-true b a is, ← same) (is_two o k)
    go false is e later = later e

pub instructed : (b : ℕ) (deed : Deed) → deed_of b ≡ some deed → Instructed b deed
unfolding deed_of
instructed b deed e = found_line all_lines b deed e

-- and back

pub one_line : {b : ℕ} {k r : Number} {f : ℕ → ℕ} → One b k r f → (deed_of b ≡ some (of_one f)) × (numeric_of b ≡ some (kinds_of 1 k r))
unfolding deed_of numeric_of
one_line i32_eqz = (refl, refl)
one_line i64_eqz = (refl, refl)
one_line f32_neg = (refl, refl)
one_line f64_neg = (refl, refl)

pub two_line : {b : ℕ} {k r : Number} {f : ℕ → ℕ → ℕ} → Two b k r f → (deed_of b ≡ some (of_two f)) × (numeric_of b ≡ some (kinds_of 2 k r))
unfolding deed_of numeric_of
two_line i32_eq = (refl, refl)
two_line i32_ne = (refl, refl)
two_line i32_lt_s = (refl, refl)
two_line i32_lt_u = (refl, refl)
two_line i32_gt_s = (refl, refl)
two_line i32_gt_u = (refl, refl)
two_line i32_le_s = (refl, refl)
two_line i32_le_u = (refl, refl)
two_line i32_ge_s = (refl, refl)
two_line i32_ge_u = (refl, refl)
two_line i64_eq = (refl, refl)
two_line i64_ne = (refl, refl)
two_line i64_lt_s = (refl, refl)
two_line i64_lt_u = (refl, refl)
two_line i64_gt_s = (refl, refl)
two_line i64_gt_u = (refl, refl)
two_line i64_le_s = (refl, refl)
two_line i64_le_u = (refl, refl)
two_line i64_ge_s = (refl, refl)
two_line i64_ge_u = (refl, refl)
two_line f32_eq = (refl, refl)
two_line f32_ne = (refl, refl)
two_line f32_lt = (refl, refl)
two_line f32_gt = (refl, refl)
two_line f32_le = (refl, refl)
two_line f32_ge = (refl, refl)
two_line f64_eq = (refl, refl)
two_line f64_ne = (refl, refl)
two_line f64_lt = (refl, refl)
two_line f64_gt = (refl, refl)
two_line f64_le = (refl, refl)
two_line f64_ge = (refl, refl)
two_line i32_add = (refl, refl)
two_line i32_sub = (refl, refl)
two_line i64_add = (refl, refl)
two_line i64_sub = (refl, refl)
two_line f32_add = (refl, refl)
two_line f32_sub = (refl, refl)
two_line f32_mul = (refl, refl)
two_line f32_div = (refl, refl)
two_line f64_add = (refl, refl)
two_line f64_sub = (refl, refl)
two_line f64_mul = (refl, refl)
two_line f64_div = (refl, refl)
