-- Each way out of a branch: to no label, to the function's own, which ends the run, or to that of an open block.
use Prim.Native.Nat.{ℕ, ◌+◌, ◌-◌, ◌≤◌, ◌<◌}
use mathlib.Core.Path.{◌≡◌, refl, sym, ap, ◌∙◌}
use mathlib.Core.List.{List}
use native.Mathlib.Omega.{arith}
use lib.ListN.{length}
use Rattle.scope.specs.Machine.{Block, jump}
use Rattle.run_stack.specs.Pile.{pile}
use Rattle.run_state.specs.declared.Stage.{Stage}
use Rattle.run_state.specs.declared.Stepped.{Stepped}
use Rattle.run_state.specs.declared.Stepped
use Rattle.run_state.specs.Machines.{blocks_at}
use Rattle.run_state.proofs.Open.{blocks-length}
use Rattle.run_blocks.specs.Blocks.{Finishes}
use Rattle.run_branches.specs.Branches.{Branchable, BranchableTo, BranchesTo, Branches}
use Rattle.run_blocks.proofs.Answers.{control_for, control_stuck}
use Rattle.run_branches.proofs.Jumping.{jump_out, jump_over, jump_last}

module _ {s ends operands blocks : List ℕ} {st : Stage} {left : ℕ} (a : Branchable s ends operands blocks st left) {label : ℕ} where
  pub branch_far : st.depth < label → (results : ℕ) → Branches s ends operands operands blocks st left label results Stepped.TheVariants.Astray
  branch_far h results =
      record {
        is = λ p m r c.
            let many : length m.blocks ≡ st.depth = ap length c.opened ∙ blocks-length s blocks operands st.depth in
            control_stuck (jump_out p m label (pile operands st.base left) m.blocks label (omega arith));
      }

  pub branch_last :
      st.depth ≡ label → {operands' : List ℕ} {results : ℕ} {r : Stepped} → Finishes operands operands' st left results (length s) r
      → Branches s ends operands operands' blocks st left label results r
  unfolding blocks_at
  branch_last h b =
      record {
        is = λ p m r c.
            let none : 0 + label ≡ st.depth = omega arith in
            control_for
            (ap (λ (bs : List Block). jump p m label bs (pile operands st.base left) label) (c.opened ∙ ap (blocks_at s blocks operands) (sym none))
            ∙ jump_over p m label (pile operands st.base left) s blocks operands 0 label
            ∙ jump_last p m label (pile operands st.base left))
            (b.is s ends blocks p m r refl);
      }

  module _ (h : label ≤ st.depth) (n : st.depth ≡ label → ⊥) where
    pub branch-inside : label ≤ st.depth - 1
    branch-inside = omega (arith, n)

    pub branch_there : BranchableTo s ends operands blocks st left (st.depth - 1 - label)
    branch_there = record { branchable = a; there = omega (arith, n) }

    pub branch_goes :
        {operands' : List ℕ} {r : Stepped} → BranchesTo s ends operands operands' blocks st left (st.depth - 1 - label) r → (results : ℕ)
        → Branches s ends operands operands' blocks st left label results r
    branch_goes b results = record { is = λ p m r c. b.is p m label (omega (arith, n)) c }

pub ruleset branch_exits = (branch_far, branch_last, branch-inside, branch_there, branch_goes)
