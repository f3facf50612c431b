-- The number of objects is the number of allocation steps that did not trap. Every step leaves that number as it was, or
-- is an allocation that did not trap and raises it by one; the count over the steps of a run adds up the same.
use Prim.Native.Nat.{ℕ, zero, suc, ◌+◌}
use native.Mathlib.Omega.{arith}
use mathlib.Core.Path.{◌≡◌, refl, ap}
use mathlib.Core.Bool.{Bool, true, false, ◌&&◌}
use mathlib.Core.List.{List, [], ◌∷◌}
use lib.ListN.{length}
use Rattle.scope.specs.Bodies.{Body}
use Rattle.scope.specs.Machine.{Machine, Program, OutcomeOf, Outcome, goes, ends, traps, stuck, step}
use Rattle.scope.specs.Running.{on_outcome, run_by, run, start_of, program_of}
use Rattle.scope.specs.Answers.{machine_of}
use Rattle.scope.proofs.Computes.{computes}
use Rattle.facts_runs.specs.Counting.{steps_of, steps_from, taken_by, taken, allocates, one_more_if, allocations}
use Rattle.facts_runs.specs.Samples.{two_objects, null_descriptor, sample}
use Rattle.facts_runs.proofs.Steps.{Comes, going, ending, trapping, failing, Grown, Stepped, step_does}

-- what is counted at a step that went well, and at a trap
one-counted : (new : Bool) (before after total counted : ℕ) → after ≡ one_more_if new before → total ≡ after + counted → total ≡ before + one_more_if (new && true) counted
one-counted true before after total counted e f = omega arith
one-counted false before after total counted e f = omega arith

none-counted : (new : Bool) (before : ℕ) → before ≡ before + one_more_if (new && false) zero
none-counted true before = omega arith
none-counted false before = omega arith

-- of any machine: those in `taken_by` are as many as the steps
as_many_taken : {M : Type 0} (next : M → OutcomeOf M) (n k : ℕ) (m : M) → steps_of (run_by next n k m) ≡ k + length (taken_by next n m)
unfolding run_by taken_by
as_many_taken next zero k m = omega arith
as_many_taken {M} next (suc n) k m = go (next m) (as_many_taken next n (k + 1))
  where
    go : (o : OutcomeOf M)
        → ((later : M) → steps_of (run_by next n (k + 1) later) ≡ k + 1 + length (taken_by next n later))
        → steps_of (on_outcome o k m (λ later. run_by next n (k + 1) later)) ≡ k + length (steps_from o m (λ later. taken_by next n later))
    go (goes later) from = let h = from later in omega arith
    go (ends later) from = refl
    go (traps number) from = refl
    go stuck from = omega arith

module _ (p : Program) where
  pub objects_added : (n k : ℕ) (m : Machine) → length (machine_of (run p n k m)).heap ≡ length m.heap + allocations p (taken p n m)
  unfolding run run_by taken taken_by
  objects_added zero k m = omega arith
  objects_added (suc n) k m = go (step p m) refl (step_does p m) (objects_added n (k + 1))
    where
      go : (o : Outcome) → step p m ≡ o → Comes (Stepped m.code m) (Grown (allocates m) m) o
          → ((later : Machine) → length (machine_of (run p n (k + 1) later)).heap ≡ length later.heap + allocations p (taken p n later))
          → length (machine_of (on_outcome o k m (λ later. run p n (k + 1) later))).heap ≡ length m.heap + allocations p (steps_from o m (λ later. taken p n later))
      go (goes later) e (going w) from = rw e (one-counted (allocates m) _ _ _ _ w.objects (from later))
      go (ends later) e (ending w) from = rw e (one-counted (allocates m) _ _ _ zero w (omega arith))
      go (traps number) e trapping from = rw e (none-counted (allocates m) _)
      go stuck e failing from = omega arith

  pub steps_taken : (n k : ℕ) (m : Machine) → steps_of (run p n k m) ≡ k + length (taken p n m)
  unfolding run taken
  steps_taken n k m = as_many_taken (step p) n k m

  -- "Nothing is freed: the number of objects equals the number of allocation steps that didn't trap."
  pub objects_counted : (n k : ℕ) (m : Machine) → m.heap ≡ [] → length (machine_of (run p n k m)).heap ≡ allocations p (taken p n m)
  objects_counted n k m e = let h = objects_added n k m in let none : length m.heap ≡ 0 = ap length e in omega arith

-- Examples: two objects are made in 3 steps; of 2 steps, one an allocation that traps, none is made

abbrev counts : Body → ℕ → List ℕ
counts b n =
    length (machine_of (run (program_of b) n 0 (start_of b))).heap
    ∷ length (taken (program_of b) n (start_of b))
    ∷ allocations (program_of b) (taken (program_of b) n (start_of b))
    ∷ []

pub two_made : counts (sample two_objects) 3 ≡ 2 ∷ 3 ∷ 2 ∷ []
unfolding computes taken taken_by
two_made = refl

pub trap_made_none : counts (sample null_descriptor) 3 ≡ 0 ∷ 2 ∷ 0 ∷ []
unfolding computes taken taken_by
trap_made_none = refl
