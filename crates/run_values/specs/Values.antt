-- What the words of a run's memory say: a total reading of two words as a value of the machine (scope's Machine.antt), in
-- the layout of scope's Memory.antt (value_words, local_words).
use Rattle.std.specs.Prelude.{ℕ, zero, suc, ◌+◌, ◌-◌, ◌%◌, ◌^◌, ◌<◌, ◌≡◌, cond, List, [], ◌∷◌, get_or, set, eqb}
use Rattle.std.proofs.Math.Option.{Option, none, some}
use Rattle.scope.specs.Syntax.{Number, i32, i64, f32, f64}
use Rattle.scope.specs.Machine.{Value, number, null, object}
use Rattle.scope.specs.Memory.{value_words, local_words}
use Rattle.run_values.specs.Layout.{kind_place, bits_place, no_value, null_kind, object_kind}
use Rattle.type_table.specs.View.{number_at}

-- r is the word at a place, 0 past the end
pub record Word64At (m : List ℕ) (at r : ℕ) : Type 0 where
  pub is : r ≡ get_or m at 0

-- what f gives at so many numbers from `at` on
unfoldable pub numbered : {A : Type 0} → (ℕ → A) → ℕ → ℕ → List A
numbered f at zero = []
numbered f at (suc n) = f at ∷ numbered f (at + 1) n

-- a kind and bits, read

abbrev pub width : Number → ℕ
width i32 = 32
width i64 = 64
width f32 = 32
width f64 = 64

-- a number's bits are within its width by the reading: what a word has above them is not looked at
abbrev pub within : Number → ℕ → ℕ
within k n = n % 2 ^ width k

-- null, an object, or a number, whose kind is one more than its code
unfoldable pub value_at : ℕ → ℕ → Value
value_at k n =
    cond (eqb k null_kind) null (cond (eqb k object_kind) (object n) (number (number_at (k - 1)) (within (number_at (k - 1)) n)))

-- which a local may have none of
unfoldable pub held_at : ℕ → ℕ → Option Value
held_at k n = cond (eqb k no_value) none (some (value_at k n))

-- entry j
unfoldable pub entry_in : {A : Type 0} → (ℕ → ℕ → A) → List ℕ → ℕ → A
entry_in f m j = f (get_or m (kind_place j) 0) (get_or m (bits_place j) 0)

-- so many values from number `at` on
abbrev pub values_from : List ℕ → ℕ → ℕ → List Value
values_from m at n = numbered (entry_in value_at m) at n

abbrev pub held_from : List ℕ → ℕ → ℕ → List (Option Value)
held_from m at n = numbered (entry_in held_at m) at n

-- memory with another entry j
unfoldable pub set_value : List ℕ → ℕ → ℕ → ℕ → List ℕ
set_value m j k n = set (set m (kind_place j) k) (bits_place j) n

-- the two words are those of the value that they say
pub record Canon (k n : ℕ) : Type 0 where
  pub is : k ∷ n ∷ [] ≡ value_words (value_at k n)

-- and of what a local holds
pub record HeldCanon (k n : ℕ) : Type 0 where
  pub is : k ∷ n ∷ [] ≡ local_words (held_at k n)

-- so of each of the first n entries
pub record AllWords (P : ℕ → ℕ → Type 0) (m : List ℕ) (n : ℕ) : Type 0 where
  pub each : (j : ℕ) → j < n → P (get_or m (kind_place j) 0) (get_or m (bits_place j) 0)

abbrev pub AllCanon : List ℕ → ℕ → Type 0
AllCanon m n = AllWords Canon m n

abbrev pub AllHeldCanon : List ℕ → ℕ → Type 0
AllHeldCanon m n = AllWords HeldCanon m n
