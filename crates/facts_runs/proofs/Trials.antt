-- The laws of `run`, said of the trial run: what is accepted is the body that was judged, with the ending of its run.
use Prim.Native.Nat.{ℕ, ◌+◌, ◌≤◌}
use native.Mathlib.Omega.{arith}
use mathlib.Core.Path.{◌≡◌, refl, sym, ◌∙◌}
use mathlib.Core.Bool.{cond, false}
use mathlib.Core.List.{List}
use lib.ListN.{length}
use lib.Dec.{ltb}
use Rattle.scope.specs.Sections.{empty_library}
use Rattle.scope.specs.Sizes.{most_budget}
use Rattle.scope.specs.Refusals.{oversize}
use Rattle.scope.specs.Lists.{every}
use Rattle.scope.specs.Judging.{plain, Judged, accepted, rejected, and_then}
use Rattle.scope.specs.BodyRules.{has_default}
use Rattle.scope.specs.Bodies.{Body, instructions, judge_body}
use Rattle.scope.specs.Machine.{Machine}
use Rattle.scope.specs.Running.{spent, run, start_of, program_of, Trial, trial_of, with_parameters, trial_run}
use Rattle.scope.specs.Answers.{machine_of}
use Rattle.scope.proofs.Computes.{computes}
use Rattle.facts_runs.specs.Samples.{F1, two_objects, sample}
use Rattle.facts_runs.specs.Counting.{is_spent, taken, allocations, has_loop}
use Rattle.facts_runs.proofs.Budgets.{run_of_sum}
use Rattle.facts_runs.proofs.Allocations.{objects_counted}
use Rattle.facts_runs.proofs.Loopless.{loopless_stops}
use Rattle.facts_runs.proofs.Verdicts.{Accepts, accepting, rejecting, accepts_cond, accepted_is}

pub record IsTrial (library section s : List ℕ) (x n : ℕ) (t : Trial) : Type 0 where
  pub judged : judge_body library section s x ≡ accepted t.body
  pub ran : t.ending ≡ run (program_of t.body) n 0 (start_of t.body)

module _ (library section s : List ℕ) (x : ℕ) where
  pub trial_is : (n : ℕ) {t : Trial} → trial_run library section s x n ≡ accepted t → IsTrial library section s x n t
  unfolding trial_run
  trial_is n e = accepted_is (rw e at (go (judge_body library section s x) refl))
    where
      go : (j : Judged Body) → judge_body library section s x ≡ j → Accepts (IsTrial library section s x n) (and_then j (λ b. cond (ltb most_budget n) (rejected oversize (plain 0)) (with_parameters b n)))
      go (accepted b) f =
          accepts_cond (ltb most_budget n) rejecting
          (accepts_cond (every has_default b.function.parameters) (accepting (record { judged = f; ran = refl })) rejecting)
      go (rejected number place) f = rejecting

  -- the number of objects
  pub trial_objects : (n : ℕ) {t : Trial} → trial_run library section s x n ≡ accepted t → length (machine_of t.ending).heap ≡ allocations (program_of t.body) (taken (program_of t.body) n (start_of t.body))
  trial_objects n {t} e = rw (trial_is n e).ran (objects_counted (program_of t.body) n 0 (start_of t.body) refl)

  -- a body without loop
  pub trial_stops : (n : ℕ) {t : Trial} → trial_run library section s x n ≡ accepted t → has_loop t.body.code ≡ false → instructions t.body ≤ n → is_spent t.ending ≡ false
  trial_stops n e free enough = let is = trial_is n e in rw is.ran (loopless_stops library section s x is.judged free n enough)

  -- the state after n steps
  pub trial_of_sum : (n j : ℕ) {t u : Trial} {steps : ℕ} {m : Machine}
      → trial_run library section s x n ≡ accepted t → t.ending ≡ spent steps m
      → trial_run library section s x (n + j) ≡ accepted u → u.ending ≡ run (program_of t.body) j steps m
  trial_of_sum n j {t} {u} e stands f =
      let first = trial_is n e in
      let second = trial_is (n + j) f in
      let same : u.body ≡ t.body = cc (first.judged, second.judged) in
      rw (second.ran, same) (run_of_sum (program_of t.body) n j 0 (start_of t.body) (sym first.ran ∙ stands))

-- An example: the run of 3 that makes two objects

pub two_tried : trial_run empty_library F1 two_objects 2 3 ≡ accepted (trial_of (sample two_objects) 3)
unfolding computes
two_tried = refl

pub two_stops : is_spent (trial_of (sample two_objects) 3).ending ≡ false
unfolding computes
two_stops = trial_stops empty_library F1 two_objects 2 3 two_tried refl (omega arith)
