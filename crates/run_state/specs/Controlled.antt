-- Opening, closing and leaving blocks: what it does to the operands, the open blocks and the code of a machine, by the words.
use Rattle.std.specs.Prelude.{ℕ, ◌+◌, ◌≤◌, ◌≡◌, List, length}
use Rattle.scope.specs.Layout.{operands_size}
use Rattle.scope.specs.Sizes.{most_operands}
use Rattle.scope.specs.Machine.{Machine, Outcome, goes, ends, traps, stuck, with_control}
use Rattle.run_values.specs.Values.{AllCanon}
use Rattle.run_stack.specs.Pile.{pile}
use Rattle.run_ends.specs.Matching.{code_at}
use Rattle.run_state.specs.declared.Stage.{Stage}
use Rattle.run_state.specs.declared.Stepped.{Stepped}
use Rattle.run_state.specs.declared.Stepped
use Rattle.run_state.specs.Machines.{blocks_at, Framed, Over}
use Rattle.run_state.specs.Moved.{Astray}

-- a machine's operands, open blocks and code are those that the words say
pub record Controls (s operands blocks : List ℕ) (st : Stage) (m : Machine) : Type 0 where
  pub values : m.operands ≡ pile operands st.base st.height
  pub opened : m.blocks ≡ blocks_at s blocks operands st.depth
  pub code : m.code ≡ code_at s st.place

-- the operands lie within the sizes, and each word is that of the value which it says
pub record Piled (operands : List ℕ) (st : Stage) : Type 0 where
  pub room : operands_size ≤ length operands
  pub canon : AllCanon operands (st.base + st.height)
  pub high : st.base + st.height ≤ most_operands

-- the machine with other operands, open blocks and code
unfoldable pub controlled : List ℕ → List ℕ → List ℕ → Machine → Stepped → Outcome
controlled s operands blocks m (Stepped.TheVariants.Goes st) =
    goes (with_control m (pile operands st.base st.height) (blocks_at s blocks operands st.depth) (code_at s st.place))
controlled s operands blocks m (Stepped.TheVariants.Ends st) =
    ends (with_control m (pile operands st.base st.height) (blocks_at s blocks operands st.depth) (code_at s st.place))
controlled s operands blocks m (Stepped.TheVariants.Traps number) = traps number
controlled s operands blocks m Stepped.TheVariants.Astray = stuck

-- as many objects and cells
pub record SameHeap (st later : Stage) : Type 0 where
  pub objects : later.objects ≡ st.objects
  pub cells : later.cells ≡ st.cells

pub record ControlIs (s ends operands blocks : List ℕ) (st : Stage) (m : Machine) (want : Outcome) (r : Stepped) : Type 0 where
  pub is : (r ≡ Stepped.TheVariants.Astray → ⊥) → controlled s operands blocks m r ≡ want
  pub astray : r ≡ Stepped.TheVariants.Astray → Astray m want
  pub piled : (later : Stage) → r ≡ Stepped.TheVariants.Goes later → Piled operands later
  pub framed : (later : Stage) → r ≡ Stepped.TheVariants.Goes later → Framed s ends blocks later
  pub heap : (later : Stage) → r ≡ Stepped.TheVariants.Goes later → SameHeap st later
  pub results : (later : Stage) → r ≡ Stepped.TheVariants.Ends later → Piled operands later
  pub over : (later : Stage) → r ≡ Stepped.TheVariants.Ends later → Over s later
  pub last_heap : (later : Stage) → r ≡ Stepped.TheVariants.Ends later → SameHeap st later
  pub traps_not : (number : ℕ) → r ≡ Stepped.TheVariants.Traps number → ⊥
