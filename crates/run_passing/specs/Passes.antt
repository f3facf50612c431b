-- What it is that a value passes a cast, and what a cast comes to by the moves of its two ways.
use Rattle.std.specs.Prelude.{ℕ, ◌≤◌, ◌≡◌, Bool, true, false, cond, List, length, drop}
use Rattle.std.proofs.Math.Option.{some}
use Rattle.scope.specs.Told.{Maybe}
use Rattle.std.specs.Prelude.{None, Some}
use Rattle.scope.specs.Machine.{Value, Machine, Program, Outcome, stuck, on_taken, on_descriptor, cast_passes, descriptor_cast_passes}
use Rattle.run_value.specs.declared.Value.{Value as Carrier}
use Rattle.type_table.specs.View.{heap_at_code, view}
use Rattle.run_objects.specs.Objects.{store_at}
use Rattle.run_stack.specs.Pile.{head_of}
use Rattle.run_state.specs.declared.Move.{Move}
use Rattle.run_state.specs.declared.Move
use Rattle.run_state.specs.Moved.{MoveIs}
use Rattle.run_state.specs.Planned.{Seen, Knows}

-- whatever is done with the answer `ask` gives of the topmost of these values, it is done with this one; or the machine is stuck
pub record Answers (vs : List Value) (ask : Value → (Bool → Outcome) → Outcome) (r : Maybe Bool) : Type 0 where
  pub wrong : r ≡ None → (f : Value → List Value → Bool → Outcome) → on_taken vs (λ v below. ask v (f v below)) ≡ stuck
  pub there : (b : Bool) → r ≡ Some b → (v : Value) × (head_of vs ≡ some v)
  pub is : (b : Bool) → r ≡ Some b → (v : Value) → head_of vs ≡ some v → (f : Value → List Value → Bool → Outcome)
      → on_taken vs (λ w below. ask w (f w below)) ≡ f v (drop 1 vs) b

pub record PassesAs (rows codes objects : List ℕ) (n : ℕ) (top : Maybe Carrier) (null : Bool) (h : ℕ) (r : Maybe Bool) : Type 0 where
  pub answers : (vs : List Value) (cells : List ℕ) → Seen vs top → Answers vs (cast_passes (view rows codes) (store_at objects cells n) null (heap_at_code h)) r

pub record PassesDescriptorAs (objects : List ℕ) (n : ℕ) (top : Maybe Carrier) (null : Bool) (d : ℕ) (r : Maybe Bool) : Type 0 where
  pub answers : (vs : List Value) (cells : List ℕ) → Seen vs top → Answers vs (descriptor_cast_passes (store_at objects cells n) null d) r

abbrev pub chosen_of : Maybe Bool → Move → Move → Move
chosen_of None yes' no' = Move.TheVariants.Astray
chosen_of (Some b) yes' no' = cond b yes' no'

-- the two moves are what comes of the two answers, so the one that is chosen is what comes of the cast
pub record CastChosen (rows codes objects : List ℕ) (n : ℕ) (first : Maybe Carrier) (null : Bool) (h : ℕ) (yes' no' r : Move) : Type 0 where
  pub is : (p : Program) (m : Machine) (cells : List ℕ) (total : ℕ)
      → p.types ≡ view rows codes → Knows m first objects cells n total
      → (f : Value → List Value → Bool → Outcome)
      → ((v : Value) → head_of m.operands ≡ some v → MoveIs p codes m (f v (drop 1 m.operands) true) yes')
      → ((v : Value) → head_of m.operands ≡ some v → MoveIs p codes m (f v (drop 1 m.operands) false) no')
      → MoveIs p codes m (on_taken m.operands (λ v below. cast_passes p.types m.heap null (heap_at_code h) v (f v below))) r

pub record DescriptorChosen (objects : List ℕ) (n : ℕ) (first second : Maybe Carrier) (null : Bool) (yes' no' r : Move) : Type 0 where
  pub is : (p : Program) (codes : List ℕ) (m : Machine) (cells : List ℕ) (total : ℕ)
      → Knows m first objects cells n total → Seen (drop 1 m.operands) second
      → (f : List Value → Bool → Outcome)
      → (1 ≤ length m.operands → MoveIs p codes m (f (drop 1 m.operands) true) yes')
      → (1 ≤ length m.operands → MoveIs p codes m (f (drop 1 m.operands) false) no')
      → MoveIs p codes m (on_descriptor m.operands (λ d others. on_taken others (λ v below. descriptor_cast_passes m.heap null d v (f others)))) r
