-- What a test that passed tells: of `&&`, `||` and an implication, and of a test over a list. A test passes where it is
-- `≡ true`; each lemma here takes one apart or puts one together, by the two cases of a Bool.
use mathlib.Core.Path.{◌≡◌, refl}
use mathlib.Core.Logic.{◌⊎◌, inl, inr}
use mathlib.Core.Bool.{Bool, true, false, not, ◌&&◌, ◌||◌, false≢true}
use mathlib.Core.Option.{none, some}
use mathlib.Core.List.{List, [], ◌∷◌, Memᴰ}
use Rattle.scope.specs.Lists.{every, some_of}
use Rattle.scope.proofs.Impossible.{contradiction}

pub decided : (a : Bool) → (a ≡ true) ⊎ (a ≡ false)
decided true = inl refl
decided false = inr refl

pub none_is_not-some : {A : Type 0} {x : A} → none ≡ some x → ⊥
none_is_not-some e = contradiction cc

pub both : {a b : Bool} → a ≡ true → b ≡ true → a && b ≡ true
both p q = rw p q

pub from_both : (a b : Bool) → a && b ≡ true → (a ≡ true) × (b ≡ true)
from_both true b e = (refl, e)
from_both false b e = absurd (false≢true e)

pub either_first : {a : Bool} (b : Bool) → a ≡ true → a || b ≡ true
either_first b p = rw p

pub either_second : (a : Bool) {b : Bool} → b ≡ true → a || b ≡ true
either_second true q = refl
either_second false q = q

pub from_either : (a b : Bool) → a || b ≡ true → (a ≡ true) ⊎ (b ≡ true)
from_either true b e = inl refl
from_either false b e = inr e

-- if the first test passes, so does the second
abbrev pub implies : Bool → Bool → Bool
implies a b = not a || b

pub implied : (a b : Bool) → implies a b ≡ true → a ≡ true → b ≡ true
implied true b e p = e
implied false b e p = absurd (false≢true p)

pub implies_transitive : (a b c : Bool) → implies a b ≡ true → implies b c ≡ true → implies a c ≡ true
implies_transitive false b c e f = refl
implies_transitive true true c e f = f
implies_transitive true false c e f = absurd (false≢true e)

-- each of the tests passes
abbrev pub Pass : List Bool → Type 0
Pass [] = Unit {0}
Pass (t ∷ more) = (t ≡ true) × Pass more

pub every_pass : (tests : List Bool) → every (λ t. t) tests ≡ true → Pass tests
every_pass [] e = tt
every_pass (true ∷ more) e = (refl, every_pass more e)
every_pass (false ∷ more) e = absurd (false≢true e)

module _ {A : Type 0} (f : A → Bool) where
  pub every-at : {x : A} {xs : List A} → Memᴰ x xs → every f xs ≡ true → f x ≡ true
  every-at (Memᴰ.head {x = y} {xs = ys} e) p = rw e (from_both (f y) (every f ys) p).0
  every-at (Memᴰ.tail {x = y} {xs = ys} m) p = every-at m (from_both (f y) (every f ys) p).1

  pub some_at : {x : A} {xs : List A} → Memᴰ x xs → f x ≡ true → some_of f xs ≡ true
  some_at (Memᴰ.head {x = y} {xs = ys} e) p = either_first (some_of f ys) (rw e at p)
  some_at (Memᴰ.tail {x = y} m) p = either_second (f y) (some_at m p)

  pub from_some : (xs : List A) → some_of f xs ≡ true → (x : A) × Memᴰ x xs × (f x ≡ true)
  from_some [] e = absurd (false≢true e)
  from_some (x ∷ xs) e = go (from_either (f x) (some_of f xs) e) (from_some xs)
    where
      go : (f x ≡ true) ⊎ (some_of f xs ≡ true) → (some_of f xs ≡ true → (y : A) × Memᴰ y xs × (f y ≡ true)) → (y : A) × Memᴰ y (x ∷ xs) × (f y ≡ true)
      go (inl p) later = (x, Memᴰ.head refl, p)
      go (inr q) later = let found = later q in (found.0, Memᴰ.tail found.1, found.2)
