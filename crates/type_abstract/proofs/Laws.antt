-- What callers of this crate lean on: numbers and abstract types are read back and forth, and an answer of abstract_of
-- says what the code named.
use Prim.Native.Nat.{ℕ, zero, suc, ◌<◌, ◌+◌}
use native.Mathlib.Nat.{le_of_suc-le-suc, not-suc-le-zero, add-zero, zero-add, suc-add, add-suc}
use mathlib.Core.Path.{◌≡◌, refl, sym, ◌∙◌}
use mathlib.Core.Option.{Option, none, some}
use mathlib.Core.List.{List, [], ◌∷◌}
use lib.Dec.{lit<}
use lib.ListN.{get_or}
use Rattle.scope.specs.Told.{Maybe}
use Rattle.std.specs.Prelude.{None, Some}
use Rattle.scope.specs.Abstract.{Abstract, NOFUNC, NOEXTERN, NONE, FUNC, EXTERN, ANY, EQ, I31, STRUCT, ARRAY, ten}
use Rattle.scope.specs.Memory.{abstract_code}
use Rattle.scope.proofs.Impossible.{impossible}
use Rattle.type_abstract.specs.Heaps.{abstract_at, abstract_is}
use Rattle.type_abstract.proofs.Table.{get_d_map}

-- the number of an abstract type is a row's number, and is read as that type
pub record Numbered (a : Abstract) : Type 0 where
  pub small : abstract_code a < 10
  pub same : abstract_at (abstract_code a) ≡ a

pub numbered : (a : Abstract) → Numbered a
unfolding abstract_at
numbered NOFUNC = record { small = lit< tt; same = refl }
numbered NOEXTERN = record { small = lit< tt; same = refl }
numbered NONE = record { small = lit< tt; same = refl }
numbered FUNC = record { small = lit< tt; same = refl }
numbered EXTERN = record { small = lit< tt; same = refl }
numbered ANY = record { small = lit< tt; same = refl }
numbered EQ = record { small = lit< tt; same = refl }
numbered I31 = record { small = lit< tt; same = refl }
numbered STRUCT = record { small = lit< tt; same = refl }
numbered ARRAY = record { small = lit< tt; same = refl }

pub code-small : (a : Abstract) → abstract_code a < 10
code-small a = (numbered a).small

pub at_code : (a : Abstract) → abstract_at (abstract_code a) ≡ a
at_code a = (numbered a).same

-- i, i + 1, .., n of them
abbrev upward : ℕ → ℕ → List ℕ
upward i zero = []
upward i (suc n) = i ∷ upward (suc i) n

upward-at : (n i k d : ℕ) → k < n → get_or (upward i n) k d ≡ i + k
upward-at zero i k d h = absurd (not-suc-le-zero h)
upward-at (suc n) i zero d h = sym (add-zero i)
upward-at (suc n) i (suc k) d h = upward-at n (suc i) k d (le_of_suc-le-suc h) ∙ suc-add i k ∙ sym (add-suc i k)

-- the numbers count the rows from 0
pub code_at : (k : ℕ) → k < 10 → abstract_code (abstract_at k) ≡ k
unfolding abstract_at
code_at k h = sym (get_d_map abstract_code ten k ARRAY 0 h) ∙ upward-at 10 0 k 0 h ∙ zero-add k

-- an answer of abstract_of, taken apart
pub is_inv : {r : Maybe ℕ} {k : ℕ} (o : Option Abstract) → r ≡ abstract_is o → r ≡ Some k → (a : Abstract) × (o ≡ some a) × (k ≡ abstract_code a)
is_inv none e f = impossible cc
is_inv (some a) e f = (a, refl, cc)

pub not-one_inv : {r : Maybe ℕ} (o : Option Abstract) → r ≡ abstract_is o → r ≡ None → o ≡ none
not-one_inv none e f = refl
not-one_inv (some a) e f = cc
