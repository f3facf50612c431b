-- What a move means, by the machine of document 01; when a machine is astray; and what a step answers.
use Rattle.std.specs.Prelude.{ℕ, ◌+◌, ◌≤◌, ◌<◌, ◌≡◌, true, List, [], ◌∷◌, ◌++◌, map, reverse, length, set, take, drop}
use Rattle.std.proofs.Math.Option.{Option, some}
use Rattle.std.proofs.Math.ListN.{get_elem?}
use Rattle.scope.specs.Sizes.{most_operands, most_blocks}
use Rattle.scope.specs.Reading.{given}
use Rattle.scope.specs.BodyRules.{holds_of}
use Rattle.scope.specs.Machine.{Value, object, Object, Machine, Program, Outcome, goes, ends, traps, stuck, with_operands, with_heap, with_locals, with_field, has_room, finish, branch}
use Rattle.scope.specs.Memory.{all_operands}
use Rattle.type_table.specs.View.{link_at, field_at_code, codes_at}
use Rattle.run_value.specs.Carried.{decoded}
use Rattle.run_cells.specs.Cells.{start_of}
use Rattle.run_state.specs.declared.Stage.{Stage}
use Rattle.run_state.specs.declared.Move.{Move}
use Rattle.run_state.specs.declared.Move
use Rattle.run_state.specs.declared.Stepped.{Stepped}
use Rattle.run_state.specs.declared.Stepped
use Rattle.run_state.specs.Machines.{Words, machine_at, Valued, Orderly, Over}

-- one more object, and a reference to it on those operands
abbrev pub with_object : Machine → ℕ → Option ℕ → List Value → List Value → Machine
with_object m x d fields below =
    with_operands (with_heap m (m.heap ++ record { type = x; descriptor = d; fields = fields } ∷ [])) (object (length m.heap) ∷ below)

-- the fields of a type at their defaults, by its codes in the table
abbrev pub defaults_at : List ℕ → ℕ → ℕ → List Value
defaults_at codes first k = map start_of (holds_of (codes_at field_at_code codes first k))

-- what the machine past the instruction comes to
unfoldable pub moved : Program → List ℕ → Machine → Move → Outcome
moved p codes m Move.TheVariants.Astray = stuck
moved p codes m (Move.TheVariants.Traps number) = traps number
moved p codes m (Move.TheVariants.Leaves n) = goes (with_operands m (drop n m.operands))
moved p codes m (Move.TheVariants.Gives n v) = goes (with_operands m (decoded v ∷ drop n m.operands))
moved p codes m (Move.TheVariants.SetsLocal n x v) =
    goes (with_operands (with_locals m (set m.locals x (some (decoded v)))) (drop n m.operands))
moved p codes m (Move.TheVariants.SetsField n o i v) =
    given (get_elem? m.heap o) stuck (λ it.
    goes (with_operands (with_heap m (set m.heap o (with_field it i (decoded v)))) (drop n m.operands)))
moved p codes m (Move.TheVariants.Makes n x d k) =
    goes (with_object m x (link_at d) (reverse (take k (drop n m.operands))) (drop (n + k) m.operands))
moved p codes m (Move.TheVariants.MakesDefault n x d first k) =
    goes (with_object m x (link_at d) (defaults_at codes first k) (drop n m.operands))
moved p codes m (Move.TheVariants.Branches n l) = branch p m l (drop n m.operands)
moved p codes m Move.TheVariants.Returns = finish p m m.operands

-- A machine that no accepted body comes to: its step is stuck, it has more operands or open blocks than a body may have, or
-- an operand names an object that is not there.
pub data Astray (m : Machine) : Outcome → Type 0 where
  is_stuck : Astray m stuck
  too_high : {later : Machine} → most_operands < length (all_operands later) → Astray m (goes later)
  too_deep : {later : Machine} → most_blocks < length later.blocks → Astray m (goes later)
  dangling : {want : Outcome} (i o : ℕ) → get_elem? m.operands i ≡ some (object o) → length m.heap ≤ o → Astray m want

-- what a move can be carried out with

pub record Taking (m : Machine) (n : ℕ) : Type 0 where
  pub low : n ≤ length m.operands

pub record SettingLocal (m : Machine) (n x : ℕ) : Type 0 where
  pub low : n ≤ length m.operands
  pub there : x < length m.locals

pub record SettingField (m : Machine) (n o i : ℕ) : Type 0 where
  pub low : n ≤ length m.operands
  pub it : Object
  pub there : get_elem? m.heap o ≡ some it
  pub field : i < length it.fields

pub record Making (m : Machine) (n k : ℕ) : Type 0 where
  pub low : n ≤ length m.operands
  pub room : has_room m.heap k ≡ true

unfoldable pub Ready : Machine → Move → Type 0
Ready m Move.TheVariants.Astray = Taking m 0
Ready m (Move.TheVariants.Traps number) = Taking m 0
Ready m (Move.TheVariants.Leaves n) = Taking m n
Ready m (Move.TheVariants.Gives n v) = Taking m n
Ready m (Move.TheVariants.SetsLocal n x v) = SettingLocal m n x
Ready m (Move.TheVariants.SetsField n o i v) = SettingField m n o i
Ready m (Move.TheVariants.Makes n x d k) = Making m (n + k) k
Ready m (Move.TheVariants.MakesDefault n x d first k) = Making m n k
Ready m (Move.TheVariants.Branches n l) = Taking m n
Ready m Move.TheVariants.Returns = Taking m 0

-- the move is what the instruction comes to
pub record MoveIs (p : Program) (codes : List ℕ) (m : Machine) (want : Outcome) (r : Move) : Type 0 where
  pub is : (r ≡ Move.TheVariants.Astray → ⊥) → moved p codes m r ≡ want
  pub astray : r ≡ Move.TheVariants.Astray → Astray m want
  pub ready : Ready m r

-- steps

-- what is answered, by what the words say then
unfoldable pub outcome_at : List ℕ → ℕ → Words → Stepped → Outcome
outcome_at s count w (Stepped.TheVariants.Goes st) = goes (machine_at s count w st)
outcome_at s count w (Stepped.TheVariants.Ends st) = ends (machine_at s count w st)
outcome_at s count w (Stepped.TheVariants.Traps number) = traps number
outcome_at s count w Stepped.TheVariants.Astray = stuck

-- a trapping step changes nothing; after one that goes on the words are as orderly as before
pub record StepIs (s ends : List ℕ) (count : ℕ) (w w' : Words) (m : Machine) (want : Outcome) (r : Stepped) : Type 0 where
  pub is : (r ≡ Stepped.TheVariants.Astray → ⊥) → outcome_at s count w' r ≡ want
  pub astray : r ≡ Stepped.TheVariants.Astray → Astray m want
  pub orderly : (st : Stage) → r ≡ Stepped.TheVariants.Goes st → Orderly s ends count w' st
  pub valued : (st : Stage) → r ≡ Stepped.TheVariants.Ends st → Valued count w' st
  pub over : (st : Stage) → r ≡ Stepped.TheVariants.Ends st → Over s st
  pub same : (number : ℕ) → r ≡ Stepped.TheVariants.Traps number → w' ≡ w
