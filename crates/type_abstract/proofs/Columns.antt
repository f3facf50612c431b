-- The table of what is below what. One test of the whole, that it is the order of document 01's table, is computed where the code
-- reads it; below_at turns it into the fact of each pair.
use Prim.Native.Nat.{ℕ, zero, suc, ◌+◌, ◌*◌, ◌<◌}
use native.Mathlib.Nat.{le_of_suc-le-suc, not-suc-le-zero, zero-add, suc-add}
use native.Mathlib.Omega.{arith}
use mathlib.Core.Path.{◌≡◌, refl, sym, ap, ◌∙◌}
use mathlib.Core.Bool.{Bool, false}
use mathlib.Core.List.{List, [], ◌∷◌, ◌++◌, map}
use lib.ListN.{length, get_or}
use Rattle.scope.specs.Abstract.{Abstract, ARRAY, ten}
use Rattle.scope.specs.Order.{abstract_below}
use Rattle.type_abstract.specs.Heaps.{abstract_at, RowNumber}
use Rattle.type_abstract.proofs.Table.{get_d_map}

-- what lies at or above a type
abbrev pub column : Abstract → List Bool
column a = map (λ b. abstract_below a b) ten

-- the columns of all, one after another
abbrev pub columns : List Abstract → List Bool
columns [] = []
columns (a ∷ more) = column a ++ columns more

-- past a list of ten, and inside it

past_ten : {A : Type 0} (xs ys : List A) (k : ℕ) (d : A) → get_or (xs ++ ys) (length xs + k) d ≡ get_or ys k d
past_ten [] ys k d = rw zero-add
past_ten (x ∷ xs) ys k d = rw suc-add (past_ten xs ys k d)

in_ten : {A : Type 0} (xs ys : List A) (k : ℕ) (d : A) → k < length xs → get_or (xs ++ ys) k d ≡ get_or xs k d
in_ten [] ys k d h = absurd (not-suc-le-zero h)
in_ten (x ∷ xs) ys zero d h = refl
in_ten (x ∷ xs) ys (suc k) d h = in_ten xs ys k d (le_of_suc-le-suc h)

column-at : (l : List Abstract) (i j : ℕ) (d : Bool) → i < length l → j < 10 → get_or (columns l) (10 * i + j) d ≡ abstract_below (get_or l i ARRAY) (get_or ten j ARRAY)
column-at [] i j d h small = absurd (not-suc-le-zero h)
column-at (a ∷ l) zero j d h small =
    let here : 10 * 0 + j ≡ j = omega arith in
    ap (λ (n : ℕ). get_or (column a ++ columns l) n d) here ∙ in_ten (column a) (columns l) j d small ∙ get_d_map (λ b. abstract_below a b) ten j ARRAY d small
column-at (a ∷ l) (suc i) j d h small =
    let further : 10 * suc i + j ≡ 10 + (10 * i + j) = omega arith in
    ap (λ (n : ℕ). get_or (column a ++ columns l) n d) further ∙ past_ten (column a) (columns l) (10 * i + j) d ∙ column-at l i j d (le_of_suc-le-suc h) small

-- the fact of each pair, from the test of the whole table
pub below_at : {table : List Bool} {a b i j : ℕ} (d : Bool) → table ≡ columns ten → RowNumber a i → RowNumber b j → get_or table (10 * i + j) d ≡ abstract_below (abstract_at a) (abstract_at b)
unfolding abstract_at
below_at {table} {a} {b} {i} {j} d e lower upper =
    ap (λ (l : List Bool). get_or l (10 * i + j) d) e
    ∙ column-at ten i j d lower.small upper.small
    ∙ ap (λ (x : Abstract). abstract_below x (get_or ten j ARRAY)) lower.same
    ∙ ap (λ (x : Abstract). abstract_below (get_or ten a ARRAY) x) upper.same
