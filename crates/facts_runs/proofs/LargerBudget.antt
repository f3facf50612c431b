-- A larger budget that is not spent changes neither answer nor memory: the trial run of an accepted body is `run`, so
-- it comes to the same ending; a refusal before the budget is the same refusal. What a call promises speaks of the
-- budget through that one verdict only.
use Prim.Native.Nat.{ℕ, ◌+◌, ◌-◌, ◌≤◌}
use native.Mathlib.Omega.{arith}
use mathlib.Core.Path.{◌≡◌, refl}
use mathlib.Core.Bool.{Bool, true, false, cond}
use mathlib.Core.List.{List}
use lib.Dec.{ltb}
use borrow.Author.Tests.{le-ltb}
use Rattle.scope.specs.Sections.{empty_library}
use Rattle.scope.specs.Sizes.{most_budget}
use Rattle.scope.specs.Refusals.{oversize, no_default}
use Rattle.scope.specs.Lists.{every}
use Rattle.scope.specs.Judging.{plain, Judged, accepted, rejected, and_then}
use Rattle.scope.specs.BodyRules.{has_default}
use Rattle.scope.specs.Bodies.{Body, judge_body}
use Rattle.scope.specs.Running.{program_of, start_of, trial_of, with_parameters, trial_run}
use Rattle.scope.specs.Answers.{RunMemory, RunTried}
use Rattle.scope.specs.declared.Ran.{Ran}
use Rattle.scope.proofs.Computes.{computes}
use Rattle.facts_runs.specs.Counting.{ran_out}
use Rattle.facts_runs.specs.Samples.{F1, two_objects}
use Rattle.facts_runs.proofs.Budgets.{larger_budget}

module _ (n j : ℕ) where
  -- where the parameters have defaults, the run; where not, the same refusal
  body_larger : (b : Body) → ran_out (with_parameters b n) ≡ false → with_parameters b (n + j) ≡ with_parameters b n
  body_larger b e = go (every has_default b.function.parameters) e
    where
      go : (t : Bool)
          → ran_out (cond t (accepted (trial_of b n)) (rejected no_default (plain 0))) ≡ false
          → cond t (accepted (trial_of b (n + j))) (rejected no_default (plain 0)) ≡ cond t (accepted (trial_of b n)) (rejected no_default (plain 0))
      go true e = rw (larger_budget (program_of b) n j 0 (start_of b) e)
      go false e = refl

  pub trial_larger : (library section s : List ℕ) (x : ℕ)
      → n + j ≤ most_budget
      → ran_out (trial_run library section s x n) ≡ false
      → trial_run library section s x (n + j) ≡ trial_run library section s x n
  unfolding trial_run
  trial_larger library section s x fits e = go (judge_body library section s x) e
    where
      less : ltb most_budget n ≡ false
      less = le-ltb most_budget n (omega arith)

      more : ltb most_budget (n + j) ≡ false
      more = le-ltb most_budget (n + j) fits

      go : (judged : Judged Body)
          → ran_out (and_then judged (λ b. cond (ltb most_budget n) (rejected oversize (plain 0)) (with_parameters b n))) ≡ false
          → and_then judged (λ b. cond (ltb most_budget (n + j)) (rejected oversize (plain 0)) (with_parameters b (n + j)))
          ≡ and_then judged (λ b. cond (ltb most_budget n) (rejected oversize (plain 0)) (with_parameters b n))
      go (accepted b) e = rw (less, more) (body_larger b (rw less at e))
      go (rejected number place) e = refl

  pub promise_larger : {library section s : List ℕ} {x : ℕ} {m m' : RunMemory} {r : Ran}
      → n + j ≤ most_budget
      → ran_out (trial_run library section s x n) ≡ false
      → RunTried library section s x n m m' r
      → RunTried library section s x (n + j) m m' r
  promise_larger {library} {section} {s} {x} fits e tried =
      let q = trial_larger library section s x fits e in
      record {
        answer = rw q tried.answer;
        rows_after = tried.rows_after;
        shared_after = tried.shared_after;
        codes_after = tried.codes_after;
        work_after = tried.work_after;
        ends_after = tried.ends_after;
        counts = rw q tried.counts;
        objects = rw q tried.objects;
        cells = rw q tried.cells;
        locals = rw q tried.locals;
        operands = rw q tried.operands;
        blocks = rw q tried.blocks;
      }

-- An example: 3 steps are enough for the body that makes two objects

pub three_enough : ran_out (trial_run empty_library F1 two_objects 2 3) ≡ false
unfolding computes
three_enough = refl

pub most_as_three : trial_run empty_library F1 two_objects 2 most_budget ≡ trial_run empty_library F1 two_objects 2 3
most_as_three = trial_larger 3 (most_budget - 3) empty_library F1 two_objects 2 (omega arith) three_enough
