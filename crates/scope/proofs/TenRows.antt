-- The table of the ten abstract heap types, tested once as a whole: `rows-tested` computes the rule of every three rows,
-- and what holds of abstract types is read off that one test. A code names one row, so a test over the list of ten is a
-- test of every abstract type, and equal codes are equal types.
use Prim.Native.Nat.{ℕ}
use mathlib.Core.Path.{◌≡◌, refl, ap}
use mathlib.Core.Bool.{Bool, true, false, ◌&&◌, cond}
use mathlib.Core.Option.{some}
use mathlib.Core.List.{List, [], ◌∷◌, Memᴰ}
use lib.Dec.{eqb}
use borrow.Author.Tests.{eqb-true, eq-eqb}
use Rattle.scope.specs.Lists.{every}
use Rattle.scope.specs.Abstract.{Abstract, NOFUNC, NOEXTERN, NONE, FUNC, EXTERN, ANY, EQ, I31, STRUCT, ARRAY, row, ten, same_abstract, directly_above, first_with, abstract_of}
use Rattle.scope.specs.Order.{up_table, abstract_below}
use Rattle.scope.proofs.Truths.{none_is_not-some, implies, implied, both, Pass, every_pass, every-at}

-- Codes

pub code-names : (a : Abstract) → abstract_of (row a).code ≡ some a
code-names NOFUNC = refl
code-names NOEXTERN = refl
code-names NONE = refl
code-names FUNC = refl
code-names EXTERN = refl
code-names ANY = refl
code-names EQ = refl
code-names I31 = refl
code-names STRUCT = refl
code-names ARRAY = refl

pub codes_are_unique : (a b : Abstract) → (row a).code ≡ (row b).code → a ≡ b
codes_are_unique a b e = cc (code-names a, code-names b, ap abstract_of e)

pub same_equal : (a b : Abstract) → same_abstract a b ≡ true → a ≡ b
same_equal a b e = codes_are_unique a b (eqb-true (row a).code (row b).code e)

pub equal_same : (a b : Abstract) → a ≡ b → same_abstract a b ≡ true
equal_same a b e = eq-eqb (row a).code (row b).code (ap (λ (c : Abstract). (row c).code) e)

first_among : (b : ℕ) (xs : List Abstract) {a : Abstract} → first_with b xs ≡ some a → Memᴰ a xs
first_among b [] e = absurd (none_is_not-some e)
first_among b (x ∷ xs) {a} e = go (eqb b (row x).code) e (first_among b xs)
  where
    go : (t : Bool) → cond t (some x) (first_with b xs) ≡ some a → (first_with b xs ≡ some a → Memᴰ a xs) → Memᴰ a (x ∷ xs)
    go true p later = let q : a ≡ x = cc in Memᴰ.head q
    go false p later = Memᴰ.tail (later p)

-- A test of the ten is a test of every abstract type.
pub each : (P : Abstract → Bool) → every P ten ≡ true → (a : Abstract) → P a ≡ true
each P e a = every-at P (first_among (row a).code ten (code-names a)) e

-- The one test

abbrev row_rules : Abstract → List Bool
row_rules a = abstract_below a a ∷ abstract_below a (row a).top ∷ abstract_below (row a).bottom a ∷ []

abbrev pair_rules : Abstract → Abstract → List Bool
pair_rules a b =
    implies (directly_above a b) (abstract_below a b)
    ∷ implies (abstract_below a b && abstract_below b a) (same_abstract a b)
    ∷ implies (abstract_below a b) (same_abstract (row a).top (row b).top)
    ∷ implies (same_abstract (row a).top (row b).top) (same_abstract (row a).bottom (row b).bottom)
    ∷ implies (abstract_below (row a).top b) (same_abstract (row a).top b)
    ∷ implies (abstract_below b (row a).bottom) (same_abstract b (row a).bottom)
    ∷ []

-- of a row, of two and of three
abbrev rules : Abstract → Abstract → Abstract → List Bool
rules a b c =
    every (λ t. t) (row_rules a)
    ∷ every (λ t. t) (pair_rules a b)
    ∷ implies (abstract_below a b && abstract_below b c) (abstract_below a c)
    ∷ []

abbrev kept : Abstract → Abstract → Abstract → Bool
kept a b c = every (λ t. t) (rules a b c)

rows-tested : every (λ a. every (λ b. every (kept a b) ten) ten) ten ≡ true
unfolding up_table
rows-tested = refl

rules_pass : (a b c : Abstract) → Pass (rules a b c)
rules_pass a b c =
    let of-a = each (λ x. every (λ y. every (kept x y) ten) ten) rows-tested a in
    let of-b = each (λ y. every (kept a y) ten) of-a b in
    every_pass (rules a b c) (each (kept a b) of-b c)

-- What the test tells

pub record RowKept (a : Abstract) : Type 0 where
  pub below_itself : abstract_below a a ≡ true
  pub below_top : abstract_below a (row a).top ≡ true
  pub above_bottom : abstract_below (row a).bottom a ≡ true

pub row_kept : (a : Abstract) → RowKept a
row_kept a =
    let t = every_pass (row_rules a) (rules_pass a a a).0 in
    record { below_itself = t.0; below_top = t.1.0; above_bottom = t.1.1.0 }

pub record PairKept (a b : Abstract) : Type 0 where
  pub listed_below : directly_above a b ≡ true → abstract_below a b ≡ true
  pub one_way : abstract_below a b ≡ true → abstract_below b a ≡ true → a ≡ b
  pub one_top : abstract_below a b ≡ true → (row a).top ≡ (row b).top
  pub one_bottom : (row a).top ≡ (row b).top → (row a).bottom ≡ (row b).bottom
  pub nothing_above_top : abstract_below (row a).top b ≡ true → (row a).top ≡ b
  pub nothing_below_bottom : abstract_below b (row a).bottom ≡ true → b ≡ (row a).bottom

pub pair-kept : (a b : Abstract) → PairKept a b
pair-kept a b =
    let t = every_pass (pair_rules a b) (rules_pass a b b).1.0 in
    record {
      listed_below = λ e. implied (directly_above a b) _ t.0 e;
      one_way = λ e f. same_equal _ _ (implied _ _ t.1.0 (both e f));
      one_top = λ e. same_equal _ _ (implied (abstract_below a b) _ t.1.1.0 e);
      one_bottom = λ e. same_equal _ _ (implied _ _ t.1.1.1.0 (equal_same (row a).top (row b).top e));
      nothing_above_top = λ e. same_equal _ _ (implied (abstract_below (row a).top b) _ t.1.1.1.1.0 e);
      nothing_below_bottom = λ e. same_equal _ _ (implied (abstract_below b (row a).bottom) _ t.1.1.1.1.1.0 e);
    }

pub abstract_transitive : (a b c : Abstract) → abstract_below a b ≡ true → abstract_below b c ≡ true → abstract_below a c ≡ true
abstract_transitive a b c e f = implied (abstract_below a b && abstract_below b c) _ (rules_pass a b c).1.1.0 (both e f)
