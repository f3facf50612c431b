-- What opening and closing a block and the end of the run come to, by the machine of document 01. What the code does not hold is quantified.
use Rattle.std.specs.Prelude.{ℕ, ◌+◌, ◌-◌, ◌≤◌, ◌≡◌, List, length}
use Rattle.scope.specs.Sizes.{most_operands}
use Rattle.scope.specs.Reading.{got}
use Rattle.scope.specs.Syntax.{Val}
use Rattle.scope.specs.Instructions.{Instr, block, loop, end, instr_at}
use Rattle.scope.specs.Machine.{Machine, Program, finish, do_instr}
use Rattle.run_values.specs.Layout.{opened_block, opened_loop}
use Rattle.run_stack.specs.Pile.{pile}
use Rattle.run_state.specs.declared.Stage.{Stage}
use Rattle.run_state.specs.declared.Stepped.{Stepped}
use Rattle.run_state.specs.Machines.{lower, at_place, Framed}
use Rattle.run_state.specs.Controlled.{Controls, Piled, ControlIs}

-- the kind of block that an instruction opens
pub data OpensAs : ℕ → Instr → Type 0 where
  as_block : {rs : List Val} → OpensAs opened_block (block rs)
  as_loop : {rs : List Val} → OpensAs opened_loop (loop rs)

-- a stage within the sizes
pub record Low (st : Stage) : Type 0 where
  pub high : st.base + st.height ≤ most_operands

pub record Opens (blocks blocks' : List ℕ) (st : Stage) (next kind : ℕ) (r : Stepped) : Type 0 where
  pub is : (s ends operands : List ℕ) (i : Instr) (p : Program) (m : Machine)
      → Framed s ends blocks st → Piled operands st → instr_at s st.place ≡ got i next → OpensAs kind i → Controls s operands blocks (at_place st next) m
      → ControlIs s ends operands blocks' st m (do_instr p m st.place i) r

-- the run is done, and its results are the topmost of `left` operands
pub record Finishes (operands operands' : List ℕ) (st : Stage) (left results bytes : ℕ) (r : Stepped) : Type 0 where
  pub is : (s ends blocks : List ℕ) (p : Program) (m : Machine)
      → p.results ≡ results → length s ≡ bytes
      → ControlIs s ends operands' blocks st m (finish p m (pile operands st.base left)) r

-- the operands of the frame around lie below
pub record Closable (operands blocks : List ℕ) (st : Stage) : Type 0 where
  pub piled : Piled operands st
  pub low : lower blocks (st.depth - 1) ≤ st.base

pub record Closes (operands operands' blocks : List ℕ) (st : Stage) (next results bytes : ℕ) (r : Stepped) : Type 0 where
  pub is : (s ends : List ℕ) (p : Program) (m : Machine)
      → Framed s ends blocks st → instr_at s st.place ≡ got end next → p.results ≡ results → length s ≡ bytes → Controls s operands blocks (at_place st next) m
      → ControlIs s ends operands' blocks st m (do_instr p m st.place end) r
