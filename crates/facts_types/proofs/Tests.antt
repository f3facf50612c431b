-- What a test over what may be missing, over a list and over two lists says of its parts, both ways. Each is by the cases
-- of what the test goes through.
use Prim.Native.Nat.{ℕ}
use mathlib.Core.Path.{◌≡◌, refl}
use mathlib.Core.Bool.{Bool, true, false≢true}
use mathlib.Core.Option.{Option, none, some}
use mathlib.Core.List.{List, [], ◌∷◌, Memᴰ}
use borrow.Author.Tests.{eqb-true, eq-eqb}
use Rattle.scope.specs.Reading.{given}
use Rattle.scope.specs.Lists.{every, pairwise, prefixwise}
use Rattle.scope.specs.TypeRules.{is_the}
use Rattle.scope.proofs.Truths.{both, from_both}
use Rattle.facts_types.specs.TypeRelations.{AtLeast, any_more, one_and_more, AsMany, no_more, one_and_as_many}

-- A test of what may be missing

module _ {A : Type 0} (f : A → Bool) where
  pub given_says : {o : Option A} {y : A} → given o true f ≡ true → o ≡ some y → f y ≡ true
  given_says e q = rw q at e

  pub says_given : (o : Option A) → ((y : A) → o ≡ some y → f y ≡ true) → given o true f ≡ true
  says_given none h = refl
  says_given (some y) h = h y refl

pub is_the_lem : (o : Option ℕ) (y : ℕ) → is_the o y ≡ true → o ≡ some y
is_the_lem none y e = absurd (false≢true e)
is_the_lem (some z) y e = rw (eqb-true z y e)

pub the_is : {o : Option ℕ} {y : ℕ} → o ≡ some y → is_the o y ≡ true
the_is {y = y} q = rw q (eq-eqb y y refl)

-- A test over a list

module _ {A : Type 0} (f : A → Bool) where
  pub every_of : (xs : List A) → ((x : A) → Memᴰ x xs → f x ≡ true) → every f xs ≡ true
  every_of [] h = refl
  every_of (x ∷ xs) h = both (h x (Memᴰ.head refl)) (every_of xs (λ y m. h y (Memᴰ.tail m)))

-- A test of two lists, with a relation that the test follows

module _ {A B : Type 0} (f : A → B → Bool) {R : A → B → Type 0} where
  module _ (says : (x : A) (y : B) → f x y ≡ true → R x y) where
    pub prefix_at_least : (xs : List A) (ys : List B) → prefixwise f xs ys ≡ true → AtLeast R xs ys
    prefix_at_least [] [] e = any_more
    prefix_at_least (x ∷ xs) [] e = any_more
    prefix_at_least [] (y ∷ ys) e = absurd (false≢true e)
    prefix_at_least (x ∷ xs) (y ∷ ys) e =
        let (first, later) = from_both (f x y) (prefixwise f xs ys) e in
        one_and_more (says x y first) (prefix_at_least xs ys later)

    pub pairwise_as_many : (xs : List A) (ys : List B) → pairwise f xs ys ≡ true → AsMany R xs ys
    pairwise_as_many [] [] e = no_more
    pairwise_as_many (x ∷ xs) [] e = absurd (false≢true e)
    pairwise_as_many [] (y ∷ ys) e = absurd (false≢true e)
    pairwise_as_many (x ∷ xs) (y ∷ ys) e =
        let (first, later) = from_both (f x y) (pairwise f xs ys) e in
        one_and_as_many (says x y first) (pairwise_as_many xs ys later)

  module _ (tested : (x : A) (y : B) → R x y → f x y ≡ true) where
    pub at_least_prefix : {xs : List A} {ys : List B} → AtLeast R xs ys → prefixwise f xs ys ≡ true
    at_least_prefix any_more = refl
    at_least_prefix (one_and_more r more) = both (tested _ _ r) (at_least_prefix more)

    pub as_many_pairwise : {xs : List A} {ys : List B} → AsMany R xs ys → pairwise f xs ys ≡ true
    as_many_pairwise no_more = refl
    as_many_pairwise (one_and_as_many r more) = both (tested _ _ r) (as_many_pairwise more)
