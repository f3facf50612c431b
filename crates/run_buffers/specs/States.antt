-- The state of a run in six lent buffers: all zero, or the counts and zero beyond what they count, which is the state as
-- scope's Memory.antt writes it.
use Rattle.std.specs.Prelude.{ℕ, ◌+◌, ◌*◌, ◌≤◌, ◌≡◌, List, length, take}
use Rattle.scope.specs.Sizes.{most_operands}
use Rattle.scope.specs.Layout.{value_span, object_span, block_span, counts_size}
use Rattle.scope.specs.Memory.{StateWords, filled, wiped}
use Rattle.scope.specs.Answers.{RunMemory}
use Rattle.run_state.specs.declared.Stage.{Stage}
use Rattle.run_settle.specs.Counts.{counts_of}

abbrev pub state_of : List ℕ → List ℕ → List ℕ → List ℕ → List ℕ → List ℕ → StateWords
state_of counts objects cells locals operands blocks =
    record { counts = counts; objects = objects; cells = cells; locals = locals; operands = operands; blocks = blocks }

-- with the scratch, all that is lent to a run
abbrev pub memory : List ℕ → List ℕ → List ℕ → List ℕ → List ℕ → StateWords → RunMemory
memory rows shared codes work ends state = record { rows = rows; shared = shared; codes = codes; work = work; ends = ends; state = state }

pub record Cleared (state state' : StateWords) : Type 0 where
  pub counts : state'.counts ≡ wiped state.counts
  pub objects : state'.objects ≡ wiped state.objects
  pub cells : state'.cells ≡ wiped state.cells
  pub locals : state'.locals ≡ wiped state.locals
  pub operands : state'.operands ≡ wiped state.operands
  pub blocks : state'.blocks ≡ wiped state.blocks

-- what is counted lies within the buffers
pub record Settling (count : ℕ) (st : Stage) (state : StateWords) : Type 0 where
  pub counts : counts_size ≤ length state.counts
  pub objects : object_span * st.objects ≤ length state.objects
  pub cells : value_span * st.cells ≤ length state.cells
  pub locals : value_span * count ≤ length state.locals
  pub operands : value_span * (st.base + st.height) ≤ length state.operands
  pub blocks : block_span * st.depth ≤ length state.blocks
  pub high : st.base + st.height ≤ most_operands

-- zero beyond what is counted
pub record Settled (count : ℕ) (st : Stage) (state state' : StateWords) : Type 0 where
  pub counts : state'.counts ≡ filled state.counts (counts_of count st)
  pub objects : state'.objects ≡ filled state.objects (take (object_span * st.objects) state.objects)
  pub cells : state'.cells ≡ filled state.cells (take (value_span * st.cells) state.cells)
  pub locals : state'.locals ≡ filled state.locals (take (value_span * count) state.locals)
  pub operands : state'.operands ≡ filled state.operands (take (value_span * (st.base + st.height)) state.operands)
  pub blocks : state'.blocks ≡ filled state.blocks (take (block_span * st.depth) state.blocks)

-- a state, written into the buffers
pub record Written (told state state' : StateWords) : Type 0 where
  pub counts : state'.counts ≡ filled state.counts told.counts
  pub objects : state'.objects ≡ filled state.objects told.objects
  pub cells : state'.cells ≡ filled state.cells told.cells
  pub locals : state'.locals ≡ filled state.locals told.locals
  pub operands : state'.operands ≡ filled state.operands told.operands
  pub blocks : state'.blocks ≡ filled state.blocks told.blocks
