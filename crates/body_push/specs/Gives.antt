-- What putting values on the scratch's stack leaves, by what the words then say.
use Rattle.std.specs.Prelude.{ℕ, ◌+◌, ◌<◌, ◌≤◌, ◌≡◌, Bool, cond, List, [], ◌++◌, length}
use Rattle.scope.specs.Told.{Maybe}
use Rattle.std.specs.Prelude.{None, Some}
use Rattle.scope.specs.Sizes.{most_operands}
use Rattle.scope.specs.Syntax.{Val}
use Rattle.scope.specs.Bodies.{on_top}
use Rattle.body_state.specs.declared.Values.{Values}
use Rattle.body_state.specs.Layout.{used_size}
use Rattle.body_state.specs.State.{values_of, results_at}
use Rattle.body_put.specs.Putting.{Pushed}

-- the scratch has room for all that is kept there
pub record Long (work : List ℕ) : Type 0 where
  pub room : used_size ≤ length work

-- the values that an instruction gives: those of a list, where they are put back, and then those that a word names
unfoldable pub back_of : List ℕ → Values → Bool → List Val
back_of codes list back = cond back (values_of codes list) []

unfoldable pub given_of : List ℕ → Values → Bool → ℕ → List Val
given_of codes list back gives = back_of codes list back ++ results_at gives

pub record BackLength (list : Values) (back : Bool) (r : ℕ) : Type 0 where
  pub is : (codes : List ℕ) → length (back_of codes list back) ≡ r

pub record GivesLength (gives r : ℕ) : Type 0 where
  pub is : length (results_at gives) ≡ r
  pub small : r ≤ 1

-- the values are within the sizes
pub record Space (work : List ℕ) (base height : ℕ) (vs : List Val) : Type 0 where
  pub room : used_size ≤ length work
  pub few : base + height + length vs ≤ most_operands

-- the values stand on the stack, the last on top
pub record PutBack (work work' : List ℕ) (base height : ℕ) (vs : List Val) : Type 0 where
  pub pushed : Pushed work work' base height (height + length vs) (on_top vs)

-- the values stand on the stack, and the sizes hold
pub record Gave (work work' : List ℕ) (base height : ℕ) (vs : List Val) (h : ℕ) : Type 0 where
  pub high : h ≡ height + length vs
  pub few : base + h ≤ most_operands
  pub pushed : Pushed work work' base height h (on_top vs)

-- there are too many, and nothing is written
pub record TooMany (work work' : List ℕ) (base height : ℕ) (vs : List Val) : Type 0 where
  pub many : most_operands < base + (height + length vs)
  pub same : work' ≡ work

pub record GivenTo (work work' : List ℕ) (base height : ℕ) (vs : List Val) (r : Maybe ℕ) : Type 0 where
  pub gave : (h : ℕ) → r ≡ Some h → Gave work work' base height vs h
  pub full : r ≡ None → TooMany work work' base height vs
