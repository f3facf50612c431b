-- The laws of the trial run, whole, in document 01's words. proofs/Laws.antt cites what proves each.
use Rattle.std.specs.Prelude.{ℕ, ◌+◌, ◌≤◌, ◌≡◌, false, List, [], length}
use Rattle.scope.specs.Sizes.{most_budget}
use Rattle.scope.specs.Judging.{accepted}
use Rattle.scope.specs.Bodies.{Body, instructions, judge_body}
use Rattle.scope.specs.Machine.{Machine, Program}
use Rattle.scope.specs.Running.{spent, run, start_of, program_of, trial_run}
use Rattle.scope.specs.Answers.{machine_of, RunMemory, RunTried}
use Rattle.scope.specs.declared.Ran.{Ran}
use Rattle.facts_runs.specs.Counting.{is_spent, steps_of, ran_out, taken, allocations, has_loop}

pub record RunLaws : Type 0 where
  -- The number of objects equals the number of allocation steps that didn't trap, from the empty heap, at every ending.
  pub objects : (p : Program) (n k : ℕ) (m : Machine) → m.heap ≡ [] → length (machine_of (run p n k m)).heap ≡ allocations p (taken p n m)
  -- `taken` has a machine for each step of the run.
  pub steps : (p : Program) (n k : ℕ) (m : Machine) → steps_of (run p n k m) ≡ k + length (taken p n m)
  -- A body without `loop` stops within as many steps as it has instructions: such a budget is not spent, and with any
  -- budget there are no more steps.
  pub stops : (library section s : List ℕ) (x : ℕ) (b : Body) → judge_body library section s x ≡ accepted b → has_loop b.code ≡ false
      → (n : ℕ) → instructions b ≤ n → is_spent (run (program_of b) n 0 (start_of b)) ≡ false
  pub within : (library section s : List ℕ) (x : ℕ) (b : Body) → judge_body library section s x ≡ accepted b → has_loop b.code ≡ false
      → (n : ℕ) → steps_of (run (program_of b) n 0 (start_of b)) ≤ instructions b
  -- A larger budget that is not spent changes neither answer nor memory: the run's ending, the verdict, and what a call
  -- promises of its answer and of every lent word.
  pub larger : (p : Program) (n j k : ℕ) (m : Machine) → is_spent (run p n k m) ≡ false → run p (n + j) k m ≡ run p n k m
  pub verdict : (library section s : List ℕ) (x n j : ℕ) → n + j ≤ most_budget → ran_out (trial_run library section s x n) ≡ false
      → trial_run library section s x (n + j) ≡ trial_run library section s x n
  pub promise : (library section s : List ℕ) (x n j : ℕ) → n + j ≤ most_budget → ran_out (trial_run library section s x n) ≡ false
      → (m m' : RunMemory) (r : Ran) → RunTried library section s x n m m' r → RunTried library section s x (n + j) m m' r
  -- The run of n + j steps is the run of j from the state after n, which is after n steps.
  pub sum : (p : Program) (n j k : ℕ) (m : Machine) (steps : ℕ) (after : Machine)
      → run p n k m ≡ spent steps after → run p (n + j) k m ≡ run p j steps after
  pub counted : (p : Program) (n k : ℕ) (m : Machine) (steps : ℕ) (after : Machine) → run p n k m ≡ spent steps after → steps ≡ k + n
  pub bounded : (p : Program) (n k : ℕ) (m : Machine) → steps_of (run p n k m) ≤ k + n
