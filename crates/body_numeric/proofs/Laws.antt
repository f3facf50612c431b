-- What a caller learns from a row of the table: a numeric instruction takes one operand or two, so no operands say that the
-- byte is no numeric code.
use Prim.Native.Nat.{ℕ, ◌≤◌}
use mathlib.Core.Path.{◌≡◌, refl}
use mathlib.Core.Bool.{Bool, true, false, cond, ◌&&◌}
use mathlib.Core.Option.{Option, none, some}
use mathlib.Core.List.{List, [], ◌∷◌}
use native.Mathlib.Omega.{arith}
use lib.Dec.{leb}
use borrow.Author.Tests.{leb-true}
use Rattle.scope.specs.Lists.{every}
use Rattle.scope.specs.Numeric.{Numeric, Range, ranges, within, numeric_of}
use Rattle.scope.proofs.Truths.{from_both}
use Rattle.scope.proofs.Impossible.{impossible}
use Rattle.body_numeric.specs.declared.NumericRow.{NumericRow}
use Rattle.body_numeric.specs.Entries.{coded}

-- a test that all ranges pass is passed by the one that a code lies in
within_passes : (f : Numeric → Bool) (b : ℕ) (rs : List Range) {n : Numeric} → every (λ r. f r.is) rs ≡ true → within b rs ≡ some n → f n ≡ true
within_passes f b [] h e = impossible cc
within_passes f b (r ∷ rs) {n} h e =
    let (here, more) = from_both (f r.is) (every (λ r. f r.is) rs) h in
    go (leb r.first b && leb b r.last) here (λ q. within_passes f b rs more q) e
  where
    go : (t : Bool) → f r.is ≡ true → (within b rs ≡ some n → f n ≡ true) → cond t (some r.is) (within b rs) ≡ some n → f n ≡ true
    go true here later q = let same : r.is ≡ n = cc in rw same at here
    go false here later q = later q

abbrev one_or_two : Numeric → Bool
one_or_two n = leb 1 n.operands && leb n.operands 2

pub record FewOperands (n : Numeric) : Type 0 where
  pub some : 1 ≤ n.operands
  pub few : n.operands ≤ 2

pub few_operands_lem : (b : ℕ) {n : Numeric} → numeric_of b ≡ some n → FewOperands n
unfolding numeric_of
few_operands_lem b {n} e =
    let (least, most) = from_both (leb 1 n.operands) (leb n.operands 2) (within_passes one_or_two b ranges refl e) in
    record { some = leb-true 1 n.operands least; few = leb-true n.operands 2 most }

-- a row with no operands, and one with some

pub no_code : (b : ℕ) {r : NumericRow} → r ≡ coded (numeric_of b) → r.operands ≡ 0 → numeric_of b ≡ none
unfolding coded
no_code b {r} e z = go (numeric_of b) refl e
  where
    go : (o : Option Numeric) → numeric_of b ≡ o → r ≡ coded o → o ≡ none
    go none p q = refl
    go (some n) p q =
        let some-there : 1 ≤ n.operands = (few_operands_lem b p).some in
        let same : r.operands ≡ n.operands = rw q in
        absurd (omega arith)

pub a_code : (b : ℕ) {r : NumericRow} → r ≡ coded (numeric_of b) → (r.operands ≡ 0 → ⊥) → (n : Numeric) × (numeric_of b ≡ some n) × (r ≡ coded (some n))
unfolding coded
a_code b {r} e z = go (numeric_of b) refl e
  where
    go : (o : Option Numeric) → numeric_of b ≡ o → r ≡ coded o → (n : Numeric) × (numeric_of b ≡ some n) × (r ≡ coded (some n))
    go none p q = absurd (z (rw q))
    go (some n) p q = (n, p, q)
