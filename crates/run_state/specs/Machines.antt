-- What the words of a run's memory say: a total reading of them as the machine of document 01 (scope's Machine.antt), in the
-- layout of scope's Memory.antt, and what holds of them between two instructions.
use Rattle.std.specs.Prelude.{ℕ, zero, suc, ◌+◌, ◌-◌, ◌*◌, ◌≤◌, ◌≡◌, cond, List, [], ◌∷◌, get_or, length, eqb}
use Rattle.scope.specs.Layout.{block_span, operands_size, blocks_size}
use Rattle.scope.specs.Sizes.{most_bytes, most_operands, most_blocks}
use Rattle.scope.specs.Reading.{got}
use Rattle.scope.specs.Syntax.{Val}
use Rattle.scope.specs.Instructions.{Instr, block, loop, end, op, instr_at}
use Rattle.scope.specs.Bodies.{Code}
use Rattle.scope.specs.Machine.{Value, Block, open_block, open_loop, Machine, Program, past_ends}
use Rattle.run_values.specs.Layout.{kind_word, place_word, below_word, opened_block, opened_loop}
use Rattle.type_table.specs.View.{view}
use Rattle.run_values.specs.Values.{held_from, AllCanon, AllHeldCanon}
use Rattle.run_objects.specs.Objects.{store_at, Kept}
use Rattle.run_stack.specs.Pile.{pile, LocalRoom}
use Rattle.run_ends.specs.Matching.{on_read, code_at, Reached, EndsOf}
use Rattle.run_state.specs.declared.Stage.{Stage}

-- the memory that holds the state of a run
pub record Words : Type 0 where
  pub objects : List ℕ
  pub cells : List ℕ
  pub locals : List ℕ
  pub operands : List ℕ
  pub blocks : List ℕ

abbrev pub words : List ℕ → List ℕ → List ℕ → List ℕ → List ℕ → Words
words objects cells locals operands blocks =
    record { objects = objects; cells = cells; locals = locals; operands = operands; blocks = blocks }

-- open blocks

-- word k of open block d; the outermost is 0
abbrev pub block_word : List ℕ → ℕ → ℕ → ℕ
block_word blocks d k = get_or blocks (block_span * d + k) 0

-- how many operands lie below the frame in which so many blocks are open
unfoldable pub lower : List ℕ → ℕ → ℕ
lower blocks zero = 0
lower blocks (suc d) = block_word blocks d below_word

-- how many values a block's label takes
abbrev pub label_takes : Instr → ℕ
label_takes (block rs) = length rs
label_takes (loop rs) = 0
label_takes end = 0
label_takes (op o) = 0

-- the code after the instruction at a place
unfoldable pub code_after : List ℕ → ℕ → Code
code_after s at = on_read (instr_at s at) [] (λ i next. code_at s next)

-- a block whose instruction stands at a place, by its kind and the operands below it
unfoldable pub block_of : List ℕ → ℕ → ℕ → List Value → Block
block_of s kind at below =
    cond (eqb kind opened_loop) (open_loop at below (code_after s at)) (open_block at (on_read (instr_at s at) 0 (λ i next. label_takes i)) below)

-- so many open blocks, innermost first
unfoldable pub blocks_at : List ℕ → List ℕ → List ℕ → ℕ → List Block
blocks_at s blocks operands zero = []
blocks_at s blocks operands (suc d) =
    block_of s (block_word blocks d kind_word) (block_word blocks d place_word) (pile operands (lower blocks d) (block_word blocks d below_word - lower blocks d))
    ∷ blocks_at s blocks operands d

-- the machine

unfoldable pub machine_at : List ℕ → ℕ → Words → Stage → Machine
machine_at s count w st =
    record {
      heap = store_at w.objects w.cells st.objects;
      locals = held_from w.locals 0 count;
      operands = pile w.operands st.base st.height;
      blocks = blocks_at s w.blocks w.operands st.depth;
      code = code_at s st.place;
    }

abbrev pub program_at : List ℕ → List ℕ → ℕ → Program
program_at rows codes results = record { types = view rows codes; results = results }

-- at the first instruction, with an empty heap and no operand
abbrev pub start_stage : ℕ → Stage
start_stage first = record { place = first; objects = 0; cells = 0; base = 0; height = 0; depth = 0 }

-- the same stage at another place
abbrev pub at_place : Stage → ℕ → Stage
at_place st place =
    record { place = place; objects = st.objects; cells = st.cells; base = st.base; height = st.height; depth = st.depth }

-- the same stage with so many operands in the innermost frame
abbrev pub at_height : Stage → ℕ → Stage
at_height st height =
    record { place = st.place; objects = st.objects; cells = st.cells; base = st.base; height = height; depth = st.depth }

-- between two instructions

-- each word of a value is that of the value which it says
pub record Valued (count : ℕ) (w : Words) (st : Stage) : Type 0 where
  pub heap : Kept w.objects w.cells st.objects st.cells
  pub local_room : LocalRoom w.locals count
  pub local_canon : AllHeldCanon w.locals count
  pub room : operands_size ≤ length w.operands
  pub canon : AllCanon w.operands (st.base + st.height)
  pub high : st.base + st.height ≤ most_operands

-- an instruction that opens a block of that kind
pub data Opened (s : List ℕ) (kind at next : ℕ) : Type 0 where
  a_block : {rs : List Val} → kind ≡ opened_block → instr_at s at ≡ got (block rs) next → Opened s kind at next
  a_loop : {rs : List Val} → kind ≡ opened_loop → instr_at s at ≡ got (loop rs) next → Opened s kind at next

-- a place that is reached from a first one by reading, from where on the matching ends are kept
pub record Charted (s ends : List ℕ) (at : ℕ) : Type 0 where
  pub first : ℕ
  pub inside : first ≤ length s
  pub reached : Reached s first at
  pub matching : EndsOf s ends first

-- So many blocks are open where this code is left. What comes after the end of the innermost one is the code at the place
-- that is kept for it, and so on outwards from there.
pub data Nested (s ends blocks : List ℕ) : ℕ → Code → Type 0 where
  outermost : {code : Code} → Nested s ends blocks 0 code
  inside : {d next : ℕ} {code : Code}
      → Charted s ends (block_word blocks d place_word)
      → Opened s (block_word blocks d kind_word) (block_word blocks d place_word) next
      → lower blocks d ≤ block_word blocks d below_word
      → past_ends 1 code ≡ code_at s (get_or ends (block_word blocks d place_word) 0)
      → Nested s ends blocks d (code_at s (get_or ends (block_word blocks d place_word) 0))
      → Nested s ends blocks (suc d) code

-- the open blocks at a place
pub record Framed (s ends blocks : List ℕ) (st : Stage) : Type 0 where
  pub short : length s ≤ most_bytes
  pub room : blocks_size ≤ length blocks
  pub deep : st.depth ≤ most_blocks
  pub base : st.base ≡ lower blocks st.depth
  pub charted : Charted s ends st.place
  pub nested : Nested s ends blocks st.depth (code_at s st.place)

pub record Orderly (s ends : List ℕ) (count : ℕ) (w : Words) (st : Stage) : Type 0 where
  pub valued : Valued count w st
  pub framed : Framed s ends w.blocks st

-- when the run is over: no block is open, and the operands are the results
pub record Over (s : List ℕ) (st : Stage) : Type 0 where
  pub place : st.place ≡ length s
  pub base : st.base ≡ 0
  pub depth : st.depth ≡ 0
