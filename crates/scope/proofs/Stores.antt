-- The laws of the store, by which all else reaches it: a new object takes the next number, and those before keep theirs; of
-- a store with another object under a number, any other number names what it named before.
use Prim.Native.Nat.{ℕ}
use mathlib.Core.Path.{◌≡◌}
use mathlib.Core.Logic.{◌⊎◌}
use mathlib.Core.Option.{some}
use mathlib.Core.List.{[], ◌∷◌}
use lib.ListN.{length}
use Rattle.scope.specs.Machine.{Object, Store, object_of, with_new, with_object}
use Rattle.scope.proofs.Pairs.{at-append, at_last, at-one_more, at_set, set_at}

module _ (os : Store) (new : Object) where
  pub new_there : object_of (with_new os new) (length os) ≡ some new
  new_there = at_last os new

  pub new_keeps : (o : ℕ) {it : Object} → object_of os o ≡ some it → object_of (with_new os new) o ≡ some it
  new_keeps = at-append os (new ∷ [])

  pub new_or_old : (o : ℕ) {it : Object} → object_of (with_new os new) o ≡ some it → (object_of os o ≡ some it) ⊎ (new ≡ it)
  new_or_old = at-one_more os new

module _ (os : Store) (o : ℕ) where
  pub other_or_old : (q : ℕ) {other it : Object} → object_of (with_object os o other) q ≡ some it → (object_of os q ≡ some it) ⊎ (other ≡ it)
  other_or_old = at_set os o

  -- an object that was there is still there, or it is the one that was replaced
  pub other_keeps :
      (q : ℕ) {other it old : Object} → object_of os o ≡ some it → object_of os q ≡ some old
      → (object_of (with_object os o other) q ≡ some old) ⊎ ((object_of (with_object os o other) q ≡ some other) × (it ≡ old))
  other_keeps q here there = set_at os o q here there
