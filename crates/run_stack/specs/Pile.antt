-- What the words of a run's operands and locals say (scope's Machine.antt), and what reading, putting and moving them leaves.
-- Value j lies at `kind_place j` and beside it: operands the bottom first, locals by number.
use Rattle.std.specs.Prelude.{ℕ, zero, suc, ◌+◌, ◌*◌, ◌≤◌, ◌<◌, ◌≡◌, List, [], ◌∷◌, map, length, get_or, set}
use Rattle.std.proofs.Math.Option.{Option, none, some}
use Rattle.std.proofs.Math.ListN.{get_elem?}
use Rattle.scope.specs.Told.{Maybe}
use Rattle.std.specs.Prelude.{None, Some}
use Rattle.scope.specs.Layout.{value_span, locals_size, operands_size}
use Rattle.scope.specs.Sizes.{most_locals, most_operands}
use Rattle.scope.specs.Machine.{Value, default_of}
use Rattle.run_values.specs.Layout.{kind_place, bits_place}
use Rattle.type_table.specs.View.{val_at_code, codes_at}
use Rattle.run_values.specs.Values.{value_at, held_at, held_from, set_value, HeldCanon, AllCanon, AllHeldCanon, entry_in}
use Rattle.body_state.specs.State.{val_at_word}
use Rattle.run_value.specs.declared.Value.{Value as Carrier}
use Rattle.run_value.specs.Carried.{decoded}
use Rattle.run_stack.specs.declared.HeldLocal.{HeldLocal}
use Rattle.run_stack.specs.declared.HeldLocal

-- operands

-- so many operands above the lowest `base`, the top first
unfoldable pub pile : List ℕ → ℕ → ℕ → List Value
pile m base zero = []
pile m base (suc h) = entry_in value_at m (base + h) ∷ pile m base h

-- n more operands are within the sizes
pub record Room (m : List ℕ) (base h n : ℕ) : Type 0 where
  pub room : operands_size ≤ length m
  pub few : base + h + n ≤ most_operands

-- the operand on top

abbrev pub top_of : Maybe Carrier → Option Value
top_of None = none
top_of (Some v) = some (decoded v)

abbrev pub head_of : List Value → Option Value
head_of [] = none
head_of (v ∷ vs) = some v

pub record TopIs (m : List ℕ) (base h : ℕ) (r : Maybe Carrier) : Type 0 where
  pub is : top_of r ≡ head_of (pile m base h)

-- The value stands on top of the others, and no operand below is changed.
pub record Pushed (m m' : List ℕ) (base h : ℕ) (v : Carrier) : Type 0 where
  pub top : pile m' base (h + 1) ≡ decoded v ∷ pile m base h
  pub below : (i : ℕ) → i < value_span * (base + h) → get_or m' i 0 ≡ get_or m i 0
  pub canon : AllCanon m (base + h) → AllCanon m' (base + (h + 1))
  pub size : length m' ≡ length m

-- memory in which value `to` is what value `from` was
unfoldable pub copied : List ℕ → ℕ → ℕ → List ℕ
copied m from to = set_value m to (get_or m (kind_place from) 0) (get_or m (bits_place from) 0)

-- n values from `from` on, within the sizes, go down to `to`
pub record Lower (m : List ℕ) (from to n : ℕ) : Type 0 where
  pub room : operands_size ≤ length m
  pub few : from + n ≤ most_operands
  pub down : to ≤ from

pub record Moved (m m' : List ℕ) (from to n : ℕ) : Type 0 where
  pub top : pile m' to n ≡ pile m from n
  pub below : (i : ℕ) → i < value_span * to → get_or m' i 0 ≡ get_or m i 0
  pub canon : AllCanon m (from + n) → AllCanon m' (to + n)
  pub size : length m' ≡ length m

-- locals

-- so many locals are within the sizes
pub record LocalRoom (locals : List ℕ) (count : ℕ) : Type 0 where
  pub room : locals_size ≤ length locals
  pub few : count ≤ most_locals

-- the local, where there is one, and what it holds
abbrev pub local_of : HeldLocal → Option (Option Value)
local_of HeldLocal.TheVariants.Absent = none
local_of HeldLocal.TheVariants.Unset = some none
local_of (HeldLocal.TheVariants.Is v) = some (some (decoded v))

pub record LocalIs (locals : List ℕ) (count x : ℕ) (r : HeldLocal) : Type 0 where
  pub is : local_of r ≡ get_elem? (held_from locals 0 count) x

-- the value is what the local holds
pub record LocalSet (locals locals' : List ℕ) (count x : ℕ) (v : Carrier) : Type 0 where
  pub is : held_from locals' 0 count ≡ set (held_from locals 0 count) x (some (decoded v))
  pub canon : AllHeldCanon locals count → AllHeldCanon locals' count
  pub size : length locals' ≡ length locals

-- the kind with which a local starts; its bits are 0
pub record StartKind (code r : ℕ) : Type 0 where
  pub is : held_at r 0 ≡ default_of (val_at_code code)
  pub canon : HeldCanon r 0

-- each local holds the default of its type, whose code is the scratch's word at the local's number
pub record Started (work locals locals' : List ℕ) (count : ℕ) : Type 0 where
  pub is : held_from locals' 0 count ≡ map default_of (codes_at val_at_word work 0 count)
  pub canon : AllHeldCanon locals' count
  pub size : length locals' ≡ length locals
