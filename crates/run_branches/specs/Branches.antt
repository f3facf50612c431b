-- What a branch comes to, by the machine of document 01. What the code does not hold is quantified.
use Rattle.std.specs.Prelude.{ℕ, ◌+◌, ◌≤◌, ◌<◌, ◌≡◌, List, length}
use Rattle.scope.specs.Reading.{got}
use Rattle.scope.specs.Syntax.{Val}
use Rattle.scope.specs.Instructions.{block, instr_at}
use Rattle.scope.specs.Machine.{Machine, Program, branch}
use Rattle.run_values.specs.Layout.{place_word, below_word}
use Rattle.run_stack.specs.Pile.{pile}
use Rattle.run_state.specs.declared.Stage.{Stage}
use Rattle.run_state.specs.declared.Stepped.{Stepped}
use Rattle.run_state.specs.Machines.{block_word, lower, at_height, Framed}
use Rattle.run_state.specs.Controlled.{Controls, Piled, ControlIs}

-- where a branch may be taken with `left` operands of the innermost frame
pub record Branchable (s ends operands blocks : List ℕ) (st : Stage) (left : ℕ) : Type 0 where
  pub framed : Framed s ends blocks st
  pub piled : Piled operands (at_height st left)

-- and block d is one of those that are open
pub record BranchableTo (s ends operands blocks : List ℕ) (st : Stage) (left d : ℕ) : Type 0 where
  pub branchable : Branchable s ends operands blocks st left
  pub there : d < st.depth

-- to the label of open block d
pub record BranchesTo (s ends operands operands' blocks : List ℕ) (st : Stage) (left d : ℕ) (r : Stepped) : Type 0 where
  pub is : (p : Program) (m : Machine) (l : ℕ)
      → st.depth ≡ d + 1 + l → Controls s operands blocks st m
      → ControlIs s ends operands' blocks st m (branch p m l (pile operands st.base left)) r

-- what lies below block d lies within the operands, and above what lies below the frame around
pub record Descends (operands blocks : List ℕ) (st : Stage) (left d : ℕ) : Type 0 where
  pub piled : Piled operands (at_height st left)
  pub low : lower blocks d ≤ block_word blocks d below_word
  pub high : block_word blocks d below_word ≤ st.base

-- out of open block d, which is no loop and whose label takes so many values
pub record BranchesOut (ends operands operands' blocks : List ℕ) (st : Stage) (left d takes : ℕ) (r : Stepped) : Type 0 where
  pub is : (s : List ℕ) (rs : List Val) (next : ℕ)
      → Framed s ends blocks st → instr_at s (block_word blocks d place_word) ≡ got (block rs) next → takes ≡ length rs
      → BranchesTo s ends operands operands' blocks st left d r

pub record Branches (s ends operands operands' blocks : List ℕ) (st : Stage) (left label results : ℕ) (r : Stepped) : Type 0 where
  pub is : (p : Program) (m : Machine)
      → p.results ≡ results → Controls s operands blocks st m
      → ControlIs s ends operands' blocks st m (branch p m label (pile operands st.base left)) r
