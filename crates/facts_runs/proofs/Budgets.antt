-- More budget. A run of n + j steps is a run of n, and, where that is spent, a run of j from where it stands: each step
-- of the first n is the same in both. So a budget that is not spent is enough, and any larger one comes to the same.
use Prim.Native.Nat.{ℕ, zero, suc, ◌+◌, ◌≤◌}
use native.Mathlib.Omega.{arith}
use native.Mathlib.Nat.{zero-add, suc-add}
use mathlib.Core.Path.{◌≡◌, refl, sym, ap}
use mathlib.Core.Bool.{false, false≢true}
use Rattle.scope.specs.Machine.{Machine, Program, OutcomeOf, goes, ends, traps, stuck, step}
use Rattle.scope.specs.Running.{EndingOf, done, trapped, spent, wrong, on_outcome, run_by, run, start_of, program_of}
use Rattle.scope.specs.Answers.{machine_of}
use Rattle.scope.proofs.Computes.{computes}
use Rattle.facts_runs.specs.Counting.{is_spent, steps_of, gone_on}
use Rattle.facts_runs.specs.Samples.{two_objects, sample}

-- the steps of an ending: all of the limit where it is spent, at most so many where not
pub data Within {M : Type 0} (limit : ℕ) : EndingOf M → Type 0 where
  is_done : {steps : ℕ} {m : M} → steps ≤ limit → Within limit (done steps m)
  is_trapped : {number steps : ℕ} {m : M} → steps ≤ limit → Within limit (trapped number steps m)
  is_spent_all : {steps : ℕ} {m : M} → steps ≡ limit → Within limit (spent steps m)
  is_wrong : {steps : ℕ} {m : M} → steps ≤ limit → Within limit (wrong steps m)

pub within_steps : {M : Type 0} {limit : ℕ} {r : EndingOf M} → Within limit r → steps_of r ≤ limit
within_steps (is_done h) = h
within_steps (is_trapped h) = h
within_steps (is_spent_all e) = omega arith
within_steps (is_wrong h) = h

-- of any machine and any step

module _ {M : Type 0} (next : M → OutcomeOf M) where
  by_splits : (n j k : ℕ) (m : M) → run_by next (n + j) k m ≡ gone_on (run_by next n k m) (run_by next j)
  unfolding run_by
  by_splits zero j k m = rw zero-add
  by_splits (suc n) j k m = rw suc-add (go (next m) (by_splits n j (k + 1)))
    where
      go : (o : OutcomeOf M)
          → ((later : M) → run_by next (n + j) (k + 1) later ≡ gone_on (run_by next n (k + 1) later) (run_by next j))
          → on_outcome o k m (λ later. run_by next (n + j) (k + 1) later) ≡ gone_on (on_outcome o k m (λ later. run_by next n (k + 1) later)) (run_by next j)
      go (goes later) from = from later
      go (ends later) from = refl
      go (traps number) from = refl
      go stuck from = refl

  by_within : (n k : ℕ) (m : M) → Within (k + n) (run_by next n k m)
  unfolding run_by
  by_within zero k m = let q : k ≡ k + zero = omega arith in is_spent_all q
  by_within (suc n) k m = go (next m) (by_within n (k + 1))
    where
      one : k + 1 ≤ k + suc n
      one = omega arith

      none : k ≤ k + suc n
      none = omega arith

      go : (o : OutcomeOf M)
          → ((later : M) → Within (k + 1 + n) (run_by next n (k + 1) later))
          → Within (k + suc n) (on_outcome o k m (λ later. run_by next n (k + 1) later))
      go (goes later) from = let q : k + suc n ≡ k + 1 + n = omega arith in rw q (from later)
      go (ends later) from = is_done one
      go (traps number) from = is_trapped one
      go stuck from = is_wrong none

-- a spent ending has all of the limit's steps
all_spent : {M : Type 0} {limit steps : ℕ} {after : M} → Within limit (spent steps after) → steps ≡ limit
all_spent (is_spent_all q) = q

-- more budget changes nothing where none of it is needed
not_spent : {M : Type 0} (more : ℕ → M → EndingOf M) (r : EndingOf M) → is_spent r ≡ false → gone_on r more ≡ r
not_spent more (done steps m) e = refl
not_spent more (trapped number steps m) e = refl
not_spent more (spent steps m) e = absurd (false≢true (sym e))
not_spent more (wrong steps m) e = refl

-- of the trial run

module _ (p : Program) where
  pub run_splits : (n j k : ℕ) (m : Machine) → run p (n + j) k m ≡ gone_on (run p n k m) (run p j)
  unfolding run
  run_splits n j k m = by_splits (step p) n j k m

  pub steps_within : (n k : ℕ) (m : Machine) → Within (k + n) (run p n k m)
  unfolding run
  steps_within n k m = by_within (step p) n k m

  -- The run of n + j steps is the run of j from the state after n.
  pub run_of_sum : (n j k : ℕ) (m : Machine) {steps : ℕ} {after : Machine} → run p n k m ≡ spent steps after → run p (n + j) k m ≡ run p j steps after
  run_of_sum n j k m e = rw (run_splits, e)

  pub spent_steps : (n k : ℕ) (m : Machine) {steps : ℕ} {after : Machine} → run p n k m ≡ spent steps after → steps ≡ k + n
  spent_steps n k m e = all_spent (rw e at (steps_within n k m))

  -- A larger budget that is not spent changes nothing.
  pub larger_budget : (n j k : ℕ) (m : Machine) → is_spent (run p n k m) ≡ false → run p (n + j) k m ≡ run p n k m
  larger_budget n j k m e = rw run_splits (not_spent (run p j) (run p n k m) e)

-- An example: the body that makes two objects is done after 3 steps

abbrev program : Program
program = program_of (sample two_objects)

abbrev start : Machine
start = start_of (sample two_objects)

pub two_steps : run program 2 0 start ≡ spent 2 (machine_of (run program 2 0 start))
unfolding computes
two_steps = refl

pub three_steps : run program 3 0 start ≡ done 3 (machine_of (run program 3 0 start))
unfolding computes
three_steps = refl

pub one_more_step : run program 3 0 start ≡ run program 1 2 (machine_of (run program 2 0 start))
one_more_step = run_of_sum program 2 1 0 start two_steps

pub ten_as_three : run program 10 0 start ≡ run program 3 0 start
ten_as_three = larger_budget program 3 7 0 start (ap is_spent three_steps)
