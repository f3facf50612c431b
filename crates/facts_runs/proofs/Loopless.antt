-- A body without `loop` stops within as many steps as it has instructions: each step makes the code that is left shorter,
-- and an accepted body's code is never left empty, since its last `end` ends the run.
use Prim.Native.Nat.{ℕ, zero, suc, ◌+◌, ◌-◌, ◌≤◌}
use native.Mathlib.Omega.{arith}
use native.Mathlib.Nat.{le_refl}
use mathlib.Core.Path.{◌≡◌, refl}
use mathlib.Core.Logic.{◌⊎◌, inl, inr}
use mathlib.Core.Bool.{true, false}
use mathlib.Core.List.{List, [], ◌∷◌}
use lib.ListN.{length}
use lib.Dec.{leb}
use borrow.Author.Tests.{leb-true, leb-false}
use Rattle.scope.specs.Sections.{empty_library}
use Rattle.scope.specs.Judging.{accepted}
use Rattle.scope.specs.Instructions.{nop, op}
use Rattle.scope.specs.Bodies.{Body, instructions, judge_body}
use Rattle.scope.specs.Machine.{Machine, Program, Outcome, goes, ends, traps, stuck, step}
use Rattle.scope.specs.Running.{on_outcome, run_by, run, start_of, program_of}
use Rattle.scope.proofs.Truths.{decided}
use Rattle.scope.proofs.Computes.{computes}
use Rattle.facts_runs.specs.Counting.{is_spent, steps_of, allocates, has_loop}
use Rattle.facts_runs.specs.Samples.{F1, branch_out, endless, sample}
use Rattle.facts_runs.proofs.Budgets.{within_steps, steps_within, larger_budget}
use Rattle.facts_runs.proofs.AcceptedCode.{loopless_ahead}
use Rattle.facts_runs.proofs.Straight.{none_open, Straight, straight_some}
use Rattle.facts_runs.proofs.Steps.{Comes, going, ending, trapping, failing, Grown, Stepped, step_does}

pub straight_stops : (p : Program) (n k : ℕ) (m : Machine) → Straight m.blocks m.code → length m.code ≤ n → is_spent (run p n k m) ≡ false
unfolding run run_by
straight_stops p zero k m s h = absurd (let some = straight_some s in omega arith)
straight_stops p (suc n) k m s h = go (step p m) (step_does p m) (straight_stops p n (k + 1))
  where
    go : (o : Outcome) → Comes (Stepped m.code m) (Grown (allocates m) m) o
        → ((later : Machine) → Straight later.blocks later.code → length later.code ≤ n → is_spent (run p n (k + 1) later) ≡ false)
        → is_spent (on_outcome o k m (λ later. run p n (k + 1) later)) ≡ false
    go (goes later) (going w) from = let less = w.shorter s in from later (w.straight s) (omega arith)
    go (ends later) (ending w) from = refl
    go (traps number) trapping from = refl
    go stuck failing from = refl

module _ (library section s : List ℕ) (x : ℕ) {b : Body} (e : judge_body library section s x ≡ accepted b) (free : has_loop b.code ≡ false) where
  pub loopless_stops : (n : ℕ) → instructions b ≤ n → is_spent (run (program_of b) n 0 (start_of b)) ≡ false
  loopless_stops n h =
      straight_stops (program_of b) n 0 (start_of b) (record { depth = 0; blocks = none_open; ahead = loopless_ahead library section s x e free }) h

  -- "A body without loop stops within as many steps as it has instructions", whatever the budget.
  pub loopless_steps : (n : ℕ) → steps_of (run (program_of b) n 0 (start_of b)) ≤ instructions b
  loopless_steps n = go (decided (leb n (instructions b)))
    where
      steps_of_lem : (k : ℕ) → steps_of (run (program_of b) k 0 (start_of b)) ≤ 0 + k
      steps_of_lem k = within_steps (steps_within (program_of b) k 0 (start_of b))

      go : (leb n (instructions b) ≡ true) ⊎ (leb n (instructions b) ≡ false) → steps_of (run (program_of b) n 0 (start_of b)) ≤ instructions b
      go (inl less) = let h = steps_of_lem n in omega (arith, leb-true)
      go (inr more) =
          let q : n ≡ instructions b + (n - instructions b) = omega (arith, leb-false) in
          let enough = larger_budget (program_of b) (instructions b) (n - instructions b) 0 (start_of b) (loopless_stops (instructions b) (le_refl _)) in
          rw (q, enough) (let h = steps_of_lem (instructions b) in omega arith)

-- Examples: a body with a branch out of a block, 6 instructions, is accepted and traps after 3 steps

pub branch_accepted : judge_body empty_library F1 branch_out 2 ≡ accepted (sample branch_out)
unfolding computes
branch_accepted = refl

pub branch_loopless : has_loop (sample branch_out).code ≡ false
unfolding computes
branch_loopless = refl

pub branch_stops : (n : ℕ) → instructions (sample branch_out) ≤ n → is_spent (run (program_of (sample branch_out)) n 0 (start_of (sample branch_out))) ≡ false
branch_stops = loopless_stops empty_library F1 branch_out 2 branch_accepted branch_loopless

pub branch_steps : steps_of (run (program_of (sample branch_out)) 6 0 (start_of (sample branch_out))) ≡ 3
unfolding computes
branch_steps = refl

-- with a loop, the same budget may be spent
pub endless_spent : is_spent (run (program_of (sample endless)) (instructions (sample endless)) 0 (start_of (sample endless))) ≡ true
unfolding computes
endless_spent = refl

-- and so may it be without the last `end`, which no accepted body lacks
abbrev unended : Machine
unended = record { heap = []; locals = []; operands = []; blocks = []; code = (0, op nop) ∷ [] }

pub unended_spent : is_spent (run (program_of (sample endless)) 1 0 unended) ≡ true
unfolding computes
unended_spent = refl
