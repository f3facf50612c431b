-- What is proved of the words of a run's state: at each word stands what the layout says, and nothing else stands anywhere; and words
-- that are equal are those of machines with the same heap, locals, operands, open blocks and place.
use Rattle.std.specs.Prelude.{ℕ, ◌≡◌, ◌↔◌, List, map}
use Rattle.scope.specs.Machine.{Value, Block, open_block, open_loop, Machine}
use Rattle.scope.specs.Judging.{accepted}
use Rattle.scope.specs.Bodies.{Body, judge_body}
use Rattle.scope.specs.Running.{start_of, program_of, place_of}
use Rattle.scope.specs.Memory.{state_words}
use Rattle.scope.proofs.Soundness.{Reaches}
use Rattle.facts_steps.specs.Places.{Stands}
use Rattle.facts_states.specs.StateLayout.{ObjectsWord, CellsWord, LocalsWord, OperandsWord, BlocksWord, CountsWord}

pub record WordsAre : Type 0 where
  pub counts : (s : List ℕ) (m : Machine) (k w : ℕ) → Stands k w (state_words s m).counts ↔ CountsWord s m k w
  pub objects : (s : List ℕ) (m : Machine) (k w : ℕ) → Stands k w (state_words s m).objects ↔ ObjectsWord m.heap k w
  pub cells : (s : List ℕ) (m : Machine) (k w : ℕ) → Stands k w (state_words s m).cells ↔ CellsWord m.heap k w
  pub locals : (s : List ℕ) (m : Machine) (k w : ℕ) → Stands k w (state_words s m).locals ↔ LocalsWord m.locals k w
  pub operands : (s : List ℕ) (m : Machine) (k w : ℕ) → Stands k w (state_words s m).operands ↔ OperandsWord m.blocks m.operands k w
  pub blocks : (s : List ℕ) (m : Machine) (k w : ℕ) → Stands k w (state_words s m).blocks ↔ BlocksWord m.blocks k w

-- an open block as the words tell it: a block or a loop, where it was opened, and what lies below it
pub data Kind : Type 0 where
  a_block a_loop : Kind

pub record Opened : Type 0 where
  pub kind : Kind
  pub place : ℕ
  pub below : List Value

abbrev pub opened_as : Block → Opened
opened_as (open_block at n below) = record { kind = a_block; place = at; below = below }
opened_as (open_loop at below again) = record { kind = a_loop; place = at; below = below }

pub record Alike (s : List ℕ) (m n : Machine) : Type 0 where
  pub heap : m.heap ≡ n.heap
  pub locals : m.locals ≡ n.locals
  pub operands : m.operands ≡ n.operands
  pub blocks : map opened_as m.blocks ≡ map opened_as n.blocks
  pub place : place_of s m.code ≡ place_of s n.code

pub record OneToOne : Type 0 where
  -- of any machines
  pub alike : (s : List ℕ) (m n : Machine) → state_words s m ≡ state_words s n → Alike s m n
  -- of two that a run of one accepted body reaches, after whatever steps: the code ahead and all of every open block too
  pub same : (library section s : List ℕ) (x : ℕ) (b : Body) → judge_body library section s x ≡ accepted b
      → (i j : ℕ) (m n : Machine) → Reaches (program_of b) (start_of b) i m → Reaches (program_of b) (start_of b) j n
      → state_words s m ≡ state_words s n → m ≡ n
