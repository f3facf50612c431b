-- The locals of a body at its start, by the definitions of document 01 and by what the words of the scratch then say.
use Rattle.std.specs.Prelude.{ℕ, ◌+◌, ◌<◌, ◌≤◌, ◌≡◌, Bool, true, ◌||◌, List, ◌++◌, map, get_or, length, replicate, ltb}
use Rattle.scope.specs.Told.{told}
use Rattle.std.specs.Prelude.{Result}
use Rattle.scope.specs.declared.Refused.{Refused}
use Rattle.scope.specs.Sizes.{most_types, most_each, most_locals}
use Rattle.scope.specs.Reading.{Read, got, then}
use Rattle.scope.specs.Numbers.{u32}
use Rattle.scope.specs.Syntax.{Val}
use Rattle.scope.specs.Memory.{flag}
use Rattle.scope.specs.BodyRules.{has_default}
use Rattle.scope.specs.Bodies.{locals_at}
use Rattle.type_table.specs.View.{val_at_code, codes_at}
use Rattle.body_state.specs.Layout.{marks_from, stamps_from, used_size}
use Rattle.body_state.specs.State.{val_at_word, sets_at}

-- how a body begins (scope's body_at): the count of the entries, and the entries
unfoldable pub locals_first : ℕ → ℕ → List ℕ → Read (List Val)
locals_first types params s = then (u32 s 0) (λ n entries. locals_at types n params s entries)

abbrev pub started_is : ℕ → Read (List Val) → Result (ℕ × ℕ) Refused
started_is params = told (λ vs. params + length vs)

-- the types of the parameters: codes of the table, from `first` on
pub record ParametersPut (codes work work' : List ℕ) (first n : ℕ) : Type 0 where
  pub types : (i : ℕ) → i < n → val_at_word (get_or work' i 0) ≡ val_at_code (get_or codes (first + i) 0)
  pub others : (i : ℕ) → n ≤ i → get_or work' i 0 ≡ get_or work i 0
  pub size : length work' ≡ length work

-- a parameter is set, and so is a local with a default
unfoldable pub starts_set : List ℕ → ℕ → ℕ → Bool
starts_set work params i = ltb i params || has_default (val_at_word (get_or work i 0))

-- each local has its mark's word
pub record MarkRoom (work : List ℕ) (count : ℕ) : Type 0 where
  pub room : stamps_from ≤ length work
  pub few : count ≤ most_locals

-- the marks of so many locals: 1 for those that are set, so in the function's own frame
pub record MarksPut (work work' : List ℕ) (params count : ℕ) : Type 0 where
  pub marks : (i : ℕ) → i < count → get_or work' (marks_from + i) 0 ≡ flag (starts_set work params i)
  pub types : (i : ℕ) → i < most_locals → get_or work' i 0 ≡ get_or work i 0
  pub beyond : (i : ℕ) → marks_from + count ≤ i → get_or work' i 0 ≡ get_or work i 0
  pub size : length work' ≡ length work

-- the scratch is wiped, and the sizes hold
pub record Starting (work : List ℕ) (types params : ℕ) : Type 0 where
  pub zero : work ≡ replicate (length work) 0
  pub room : used_size ≤ length work
  pub few : params ≤ most_each
  pub known : types ≤ most_types

-- and the entries stand after their count
pub record StartingAt (work : List ℕ) (types params : ℕ) (s : List ℕ) (entries : ℕ) : Type 0 where
  pub starting : Starting work types params
  pub forward : 0 < entries
  pub inside : entries ≤ length s

-- The locals were read: their types, with the parameters' before them; which of them are set; no stamp, operand or frame.
pub record Begun (s codes work : List ℕ) (first params : ℕ) (vs : List Val) (next : ℕ) : Type 0 where
  pub few : params + length vs ≤ most_locals
  pub forward : 0 < next
  pub inside : next ≤ length s
  pub types : codes_at val_at_word work 0 (params + length vs) ≡ codes_at val_at_code codes first params ++ vs
  pub sets : sets_at work 1 0 (params + length vs) ≡ map (λ v. true) (codes_at val_at_code codes first params) ++ map has_default vs
  pub blank : (i : ℕ) → stamps_from ≤ i → get_or work i 0 ≡ 0

-- the answer is that of a reading of the locals; where it gives them, they stand in the scratch
pub record StartedAs (o : Read (List Val)) (s codes work work' : List ℕ) (first params : ℕ) (r : Result (ℕ × ℕ) Refused) : Type 0 where
  pub answer : r ≡ started_is params o
  pub begun : (vs : List Val) (next : ℕ) → o ≡ got vs next → Begun s codes work' first params vs next
  pub size : length work' ≡ length work
