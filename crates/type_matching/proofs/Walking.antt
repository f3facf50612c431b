-- The walk over two lists of codes and the two tests over lists ask of the same pairs, where there are enough codes; where there are
-- too few, the tests fail.
use Prim.Native.Nat.{ℕ, zero, suc, ◌+◌, ◌-◌, ◌/◌, ◌%◌, ◌≤◌, ◌<◌}
use mathlib.Core.Path.{◌≡◌, refl, sym, ap, ◌∙◌}
use mathlib.Core.Bool.{Bool, true, false, ◌&&◌}
use mathlib.Core.List.{List, map}
use native.Mathlib.Nat.{add-zero}
use lib.ListN.{get_or}
use Rattle.std.specs.List.{list_all, range_with_len}
use native.Mathlib.Omega.{arith}
use Rattle.std.proofs.Math.Bool.{and-false}
use borrow.Author.Tests.{eq-eqb, ne_eqb, eqb-true, eqb-false, leb-true, leb-false, le-leb}
use Rattle.scope.specs.Syntax.{Types}
use Rattle.scope.specs.Order.{val_below, same_val}
use Rattle.scope.specs.TypeRules.{field_matches}
use Rattle.scope.specs.Layout.{codes_size}
use Rattle.lent_u16.specs.Words.{WordAt}
use Rattle.type_table.specs.View.{val_at_code, field_at_code, codes_at, both_codes}
use Rattle.type_table.proofs.Sides.{own_codes, shared-codes}
use Rattle.type_matching.specs.Lists.{code_matches, enough, codes_match}

-- one field against another: by the four cases of mutability

module _ (ts : Types) (a b : ℕ) where
  pub both_mutable : {r : Bool} → a % 2 ≡ 1 → b % 2 ≡ 1 → r ≡ same_val (val_at_code (a / 2)) (val_at_code (b / 2)) → r ≡ field_matches ts (field_at_code a) (field_at_code b)
  unfolding field_at_code
  both_mutable p q e = rw (eq-eqb (a % 2) 1 p, eq-eqb (b % 2) 1 q) e

  pub first_mutable : a % 2 ≡ 1 → (b % 2 ≡ 1 → ⊥) → false ≡ field_matches ts (field_at_code a) (field_at_code b)
  unfolding field_at_code
  first_mutable p q = rw (eq-eqb (a % 2) 1 p, ne_eqb (b % 2) 1 q)

  pub second_mutable : (a % 2 ≡ 1 → ⊥) → b % 2 ≡ 1 → false ≡ field_matches ts (field_at_code a) (field_at_code b)
  unfolding field_at_code
  second_mutable p q = rw (ne_eqb (a % 2) 1 p, eq-eqb (b % 2) 1 q)

  pub both_fixed : {r : Bool} → (a % 2 ≡ 1 → ⊥) → (b % 2 ≡ 1 → ⊥) → r ≡ val_below ts (val_at_code (a / 2)) (val_at_code (b / 2)) → r ≡ field_matches ts (field_at_code a) (field_at_code b)
  unfolding field_at_code
  both_fixed p q e = rw (ne_eqb (a % 2) 1 p, ne_eqb (b % 2) 1 q) e

pub ruleset field_exits = (both_mutable, first_mutable, second_mutable, both_fixed)

module _ (fields : Bool) (ts : Types) (a b : ℕ) {r : Bool} where
  pub field_code_lem : r ≡ field_matches ts (field_at_code a) (field_at_code b) → fields ≡ true → r ≡ code_matches fields ts a b
  unfolding code_matches
  field_code_lem e t = rw t e

  pub value_code : r ≡ val_below ts (val_at_code a) (val_at_code b) → fields ≡ false → r ≡ code_matches fields ts a b
  unfolding code_matches
  value_code e t = rw t e

pub ruleset code_exits = (field_code_lem, value_code)

-- too few, or not as many

too_few : (ts : Types) (codes : List ℕ) (i n j m : ℕ) → n < m → codes_match true ts codes i n j m ≡ false
unfolding codes_match codes_at
too_few ts codes i n j zero h = absurd (omega arith)
too_few ts codes i zero j (suc m) h = refl
too_few ts codes i (suc n) j (suc m) h = rw (too_few ts codes (i + 1) n (j + 1) m (omega arith)) (and-false _)

not_as_many : (ts : Types) (codes : List ℕ) (i n j m : ℕ) → (n ≡ m → ⊥) → codes_match false ts codes i n j m ≡ false
unfolding codes_match codes_at
not_as_many ts codes i zero j zero h = absurd (h refl)
not_as_many ts codes i zero j (suc m) h = refl
not_as_many ts codes i (suc n) j zero h = refl
not_as_many ts codes i (suc n) j (suc m) h = rw (not_as_many ts codes (i + 1) n (j + 1) m (λ e. omega arith)) (and-false _)

pub too_few_match : (fields : Bool) (ts : Types) (codes : List ℕ) (i n j m : ℕ) → enough fields n m ≡ false → false ≡ codes_match fields ts codes i n j m
too_few_match true ts codes i n j m e = sym (too_few ts codes i n j m (leb-false m n e))
too_few_match false ts codes i n j m e = sym (not_as_many ts codes i n j m (eqb-false n m e))

-- enough: the test is asked of each pair

none_left : (fields : Bool) (ts : Types) (codes : List ℕ) (at n up : ℕ) → enough fields n 0 ≡ true → codes_match fields ts codes at n up 0 ≡ true
unfolding codes_match codes_at
none_left true ts codes at zero up e = refl
none_left true ts codes at (suc n) up e = refl
none_left false ts codes at n up e = rw (eqb-true n 0 e)

enough_more : (fields : Bool) (n m : ℕ) → enough fields (suc n) (suc m) ≡ true → enough fields n m ≡ true
enough_more true n m e = let h = leb-true (suc m) (suc n) e in le-leb m n (omega arith)
enough_more false n m e = let h = eqb-true (suc n) (suc m) e in eq-eqb n m (omega arith)

none_enough : (fields : Bool) (m : ℕ) → enough fields 0 (suc m) ≡ true → ⊥
none_enough true m e = let h = leb-true (suc m) 0 e in omega arith
none_enough false m e = let h = eqb-true 0 (suc m) e in omega arith

pair_first : (fields : Bool) (ts : Types) (codes : List ℕ) (at n up m : ℕ) → codes_match fields ts codes at (suc n) up (suc m) ≡ (code_matches fields ts (get_or codes at 0) (get_or codes up 0) && codes_match fields ts codes (at + 1) n (up + 1) m)
unfolding codes_match code_matches codes_at
pair_first true ts codes at n up m = refl
pair_first false ts codes at n up m = refl

module _ (codes : List ℕ) (i j : ℕ) where
  -- the codes k places after i and j
  abbrev pub pair_at : ℕ → ℕ × ℕ
  pair_at k = (get_or codes (i + k) 0, get_or codes (j + k) 0)

  pub pair_read : (k : ℕ) {a b : ℕ} → WordAt codes (i + k) a → WordAt codes (j + k) b → (a, b) ≡ pair_at k
  pair_read k p q = rw (p.is, q.is) refl

module _ (fields : Bool) (ts : Types) where
  abbrev pub pair_matches : ℕ × ℕ → Bool
  pair_matches p = code_matches fields ts p.0 p.1

  module _ (codes : List ℕ) (i j : ℕ) where
    pairs_from : (a n m : ℕ) → enough fields n m ≡ true → list_all pair_matches (map (pair_at codes i j) (range_with_len a m)) ≡ codes_match fields ts codes (i + a) n (j + a) m
    pairs_from a n zero e = sym (none_left fields ts codes (i + a) n (j + a) e)
    pairs_from a zero (suc m) e = absurd (none_enough fields m e)
    pairs_from a (suc n) (suc m) e =
        let at : i + a + 1 ≡ i + (a + 1) = omega arith in
        let up : j + a + 1 ≡ j + (a + 1) = omega arith in
        ap (λ (t : Bool). pair_matches (pair_at codes i j a) && t) (pairs_from (a + 1) n m (enough_more fields n m e))
        ∙ rw (← at, ← up) (sym (pair_first fields ts codes (i + a) n (j + a) m))

    pub pairs_match : (n m : ℕ) → enough fields n m ≡ true → list_all pair_matches (map (pair_at codes i j) (range_with_len 0 m)) ≡ codes_match fields ts codes i n j m
    pairs_match n m e = pairs_from 0 n m e ∙ rw (add-zero i, add-zero j) refl

-- codes that all lie in one part

module _ (ts : Types) (shared codes : List ℕ) (i n j m : ℕ) where
  own_matched : (fields : Bool) → i + n ≤ codes_size → j + m ≤ codes_size → codes_match fields ts codes i n j m ≡ codes_match fields ts (both_codes shared codes) i n j m
  unfolding codes_match
  own_matched true h g = rw (own_codes field_at_code shared codes i n h, own_codes field_at_code shared codes j m g)
  own_matched false h g = rw (own_codes val_at_code shared codes i n h, own_codes val_at_code shared codes j m g)

  shared_matched : (fields : Bool) → codes_size ≤ i → codes_size ≤ j → codes_match fields ts shared (i - codes_size) n (j - codes_size) m ≡ codes_match fields ts (both_codes shared codes) i n j m
  unfolding codes_match
  shared_matched true h g = rw (shared-codes field_at_code shared codes i n h, shared-codes field_at_code shared codes j m g)
  shared_matched false h g = rw (shared-codes val_at_code shared codes i n h, shared-codes val_at_code shared codes j m g)

module _ (fields : Bool) (ts : Types) (shared codes : List ℕ) (i n j m : ℕ) {r : Bool} where
  pub own_walked : i + n ≤ codes_size → j + m ≤ codes_size → r ≡ codes_match fields ts codes i n j m → r ≡ codes_match fields ts (both_codes shared codes) i n j m
  own_walked h g e = e ∙ own_matched ts shared codes i n j m fields h g

  pub shared_walked : codes_size ≤ i → codes_size ≤ j → r ≡ codes_match fields ts shared (i - codes_size) n (j - codes_size) m → r ≡ codes_match fields ts (both_codes shared codes) i n j m
  shared_walked h g e = e ∙ shared_matched ts shared codes i n j m fields h g

pub ruleset side_exits = (own_walked, shared_walked)
