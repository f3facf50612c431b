-- Each way out of carrying out a branch or a return.
use Prim.Native.Nat.{ℕ, ◌-◌, ◌≤◌}
use mathlib.Core.Path.{◌≡◌, refl, ap, subst}
use mathlib.Core.List.{List}
use native.Mathlib.Omega.{arith}
use lib.ListN.{length}
use Rattle.scope.specs.Machine.{Program, branch}
use Rattle.run_values.proofs.Laws.{all_less}
use Rattle.run_stack.specs.Pile.{pile}
use Rattle.run_stack.proofs.Laws.{pile-length, drop-pile}
use Rattle.run_state.specs.declared.Stage.{Stage}
use Rattle.run_state.specs.declared.Move.{Move}
use Rattle.run_state.specs.declared.Move
use Rattle.run_state.specs.declared.Stepped.{Stepped}
use Rattle.run_state.specs.Machines.{Words, words, machine_at, at_height, Valued}
use Rattle.run_state.specs.Moved.{moved, Taking, Ready}
use Rattle.run_state.specs.Controlled.{Piled}
use Rattle.run_blocks.specs.Blocks.{Finishes}
use Rattle.run_branches.specs.Branches.{Branchable, Branches}
use Rattle.run_step.specs.Carried.{Movable, Carried}
use Rattle.run_step.proofs.Controlling.{machine_controls, controlled-step}

piled_less : {count : ℕ} {w : Words} {st : Stage} {left : ℕ} → Valued count w st → left ≤ st.height → Piled w.operands (at_height st left)
piled_less values l = record { room = values.room; canon = all_less values.canon (omega (arith, l)); high = omega (arith, values.high, l) }

module _ {s ends : List ℕ} {count : ℕ} {w : Words} {st : Stage} {it : Move} (may : Movable s ends count w st it) where
  module _ {n l : ℕ} (e : it ≡ Move.TheVariants.Branches n l) where
    pub branches-low : n ≤ st.height
    unfolding Ready machine_at
    branches-low =
        let t : Taking (machine_at s count w st) n = subst (Ready (machine_at s count w st)) e may.ready in
        omega (arith, t.low, pile-length w.operands st.base st.height)

    may_branch : Branchable s ends w.operands w.blocks st (st.height - n)
    may_branch = record { framed = may.orderly.framed; piled = piled_less may.orderly.valued (omega arith) }

    branch_means :
        (codes : List ℕ) (p : Program)
        → moved p codes (machine_at s count w st) (Move.TheVariants.Branches n l) ≡ branch p (machine_at s count w st) l (pile w.operands st.base (st.height - n))
    unfolding moved machine_at
    branch_means codes p = ap (branch p (machine_at s count w st) l) (drop-pile w.operands st.base st.height n branches-low)

    pub carry_branches :
        {codes : List ℕ} {results : ℕ} {p' : List ℕ} {r : Stepped} → Branches s ends w.operands p' w.blocks st (st.height - n) l results r
        → {o' c' l' : List ℕ} → o' ≡ w.objects → c' ≡ w.cells → l' ≡ w.locals → Carried s codes ends count w (words o' c' l' p' w.blocks) st results it r
    carry_branches {codes} {p' = p'} {r = r} a f g h =
        record {
          is = λ p q.
              rw (e, f, g, h, branch_means codes p)
              (controlled-step s ends count w st st.place p' w.blocks may.orderly.valued r (a.is p (machine_at s count w st) q (machine_controls s count w st)));
        }

  module _ (e : it ≡ Move.TheVariants.Returns) where
    returns_piled : Piled w.operands (at_height st st.height)
    returns_piled = piled_less may.orderly.valued (omega arith)

    pub carry_returns :
        {codes : List ℕ} {results : ℕ} {p' : List ℕ} {r : Stepped} → Finishes w.operands p' st st.height results (length s) r → {o' c' l' : List ℕ}
        → o' ≡ w.objects → c' ≡ w.cells → l' ≡ w.locals → Carried s codes ends count w (words o' c' l' p' w.blocks) st results it r
    unfolding moved machine_at
    carry_returns {p' = p'} {r = r} a f g h =
        record {
          is = λ p q.
              rw (e, f, g, h)
              (controlled-step s ends count w st st.place p' w.blocks may.orderly.valued r (a.is s ends w.blocks p (machine_at s count w st) q refl));
        }

module _ {s ends : List ℕ} {count : ℕ} {o c l p b : List ℕ} {st : Stage} {it : Move} (may : Movable s ends count (words o c l p b) st it) where
  pub lent_branchable : {n label : ℕ} → it ≡ Move.TheVariants.Branches n label → Branchable s ends p b st (st.height - n)
  lent_branchable e = may_branch may e

  pub lent_piled : it ≡ Move.TheVariants.Returns → Piled p (at_height st st.height)
  lent_piled e = returns_piled may e

pub ruleset depart_exits = (branches-low, carry_branches, carry_returns, lent_branchable, lent_piled)
