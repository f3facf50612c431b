-- Each outcome of a type's test, by the order alone: by its test, and over the types of an accepted section by its relation.
use Rattle.std.specs.Prelude.{ℕ, ◌≡◌, ◌⊎◌, ◌↔◌, true, false, List}
use Rattle.scope.specs.Syntax.{Heap, Val, nullable, non_null, Types, types_of}
use Rattle.scope.specs.Order.{it_fits, but_for_null, unfit, ValOrder, val_below, val_fit}
use Rattle.scope.specs.Judging.{accepted, Joined, judge_joined}
use Rattle.scope.specs.BodyRules.{value}
use Rattle.scope.specs.Bodies.{known, fit}

-- below
abbrev pub Below : Types → Val → Val → Type 0
Below ts v w = val_below ts v w ≡ true

-- not below, and a nullable reference whose non-null one is below
abbrev pub BelowButForNull : Types → Val → Val → Type 0
BelowButForNull ts v w = (val_below ts v w ≡ false) × ((h : Heap) × (v ≡ nullable h) × (val_below ts (non_null h) w ≡ true))

-- neither
abbrev pub NotBelow : Types → Val → Val → Type 0
NotBelow ts v w = (val_below ts v w ≡ false) × ((h : Heap) → v ≡ nullable h → val_below ts (non_null h) w ≡ false)

pub record ThreeOutcomes : Type 0 where
  -- fits, would fit, does not fit
  pub fits : (ts : Types) (v w : Val) → (val_fit ts v w ≡ it_fits) ↔ Below ts v w
  pub would : (ts : Types) (v w : Val) → (val_fit ts v w ≡ but_for_null) ↔ BelowButForNull ts v w
  pub not : (ts : Types) (v w : Val) → (val_fit ts v w ≡ unfit) ↔ NotBelow ts v w
  -- the test that serves an operand of known type is this test
  pub operand : (ts : Types) (v w : Val) → fit ts (known v) (value w) ≡ val_fit ts v w
  -- one of them always is the outcome
  pub one : (ts : Types) (v w : Val) → (val_fit ts v w ≡ it_fits) ⊎ ((val_fit ts v w ≡ but_for_null) ⊎ (val_fit ts v w ≡ unfit))
  -- and of what the order says for each, no two hold of the same types
  pub apart : (ts : Types) (v w : Val) → ¬ (Below ts v w × BelowButForNull ts v w) × ¬ (Below ts v w × NotBelow ts v w) × ¬ (BelowButForNull ts v w × NotBelow ts v w)
  -- "fits" and "would fit", as type rule 6 has the order
  pub related : (library section : List ℕ) (j : Joined) → judge_joined library section ≡ accepted j → (v w : Val)
      → ((val_fit (types_of j.types) v w ≡ it_fits) ↔ ValOrder (types_of j.types) v w)
      × ((val_fit (types_of j.types) v w ≡ but_for_null) ↔ (¬ ValOrder (types_of j.types) v w × ((h : Heap) × (v ≡ nullable h) × ValOrder (types_of j.types) (non_null h) w)))
