-- Demand 2 of the trial run: where the buffers suffice and the body can be run, its verdict is the run of that body from its
-- start; soundness says how such a run ends, and the laws of facts_runs count its steps and its objects.
use Prim.Native.Nat.{ℕ, ◌≤◌}
use native.Mathlib.Omega.{arith}
use mathlib.Core.Path.{◌≡◌, refl, sym, ◌∙◌, ap}
use mathlib.Core.Bool.{Bool, true, false, cond, false≢true}
use mathlib.Core.Option.{some}
use mathlib.Core.List.{List}
use lib.ListN.{length, get_elem?}
use lib.Dec.{ltb}
use borrow.Author.Tests.{ltb-true, ltb-false, lt-ltb, le-ltb}
use Rattle.scope.specs.declared.Ran.{Ran}
use Rattle.scope.specs.declared.Ran
use Rattle.scope.specs.Sizes.{most_budget}
use Rattle.scope.specs.Refusals.{buffer_too_small, oversize, no_default}
use Rattle.scope.specs.Lists.{every}
use Rattle.scope.specs.declared.Place.{Place}
use Rattle.scope.specs.Judging.{plain, Judged, accepted, rejected, and_then}
use Rattle.scope.specs.BodyRules.{has_default}
use Rattle.scope.specs.Bodies.{Body, instructions, judge_body}
use Rattle.scope.specs.Machine.{Machine}
use Rattle.scope.specs.Running.{Ending, run, start_of, program_of, Trial, trial_of, with_parameters, trial_run}
use Rattle.scope.specs.Memory.{StateWords, filled, state_words}
use Rattle.scope.specs.Answers.{run_lent, machine_of, ran_as, ran_of, run_call, state_after, RunMemory, RunTried}
use Rattle.scope.proofs.Impossible.{contradiction}
use Rattle.scope.proofs.Soundness.{Runs, EndsWell, is_done, is_trapped, is_spent, RanSoundly}
use Rattle.scope.proofs.SoundnessHolds.{soundness}
use Rattle.facts_bodies.specs.Premises.{Each, Default}
use Rattle.facts_bodies.proofs.Premises.{tested_defaults, defaults_tested}
use Rattle.facts_runs.specs.Counting as counting
use Rattle.facts_runs.specs.Counting.{steps_of, taken, allocations, has_loop}
use Rattle.facts_runs.proofs.Allocations.{objects_counted}
use Rattle.facts_runs.proofs.Loopless.{loopless_stops, loopless_steps}
use Rattle.facts_steps.specs.Runs.{Begins, RunsTo}
use Rattle.facts_steps.proofs.Runs.{run_by_rules}
use Rattle.facts_refusals.proofs.Bodies.{body-no, no_body}
use Rattle.facts_calls.specs.Lent.{RunSuffices, RunShort}
use Rattle.facts_calls.specs.Meant.{IsBody, CanRun, RunSaysNo, by_body, by_budget, by_parameters}
use Rattle.facts_calls.specs.Calls.{Stops, stops_done, stops_at_trap, Wiped, HoldsState, Ended, ended_done, ended_at_trap, ended_spent, OfRun}
use Rattle.facts_calls.proofs.Zero.{wiped-zero, filled-holds}
use Rattle.facts_calls.proofs.Lent.{run_suffices, run_lent_lem, run_is_short, short_run}
use Rattle.facts_calls.proofs.Placed.{accepted_body, body_accepted}
use Rattle.facts_calls.proofs.Verdicts.{accepted_is_not_rejected, ran_no, lent-yes, lent-call, short_call, lent-no}
use Rattle.facts_calls.proofs.Fourteen.{body_never_14}

-- the verdict on a run

module _ (library section s : List ℕ) (x budget : ℕ) where
  pub can_run : {b : Body} → CanRun library section s x budget b → trial_run library section s x budget ≡ accepted (trial_of b budget)
  unfolding trial_run
  can_run c = rw (body_accepted library section s x c.is_body, le-ltb _ _ c.within_budget, defaults_tested c.defaults)

  runs : {b : Body} → CanRun library section s x budget b → Runs library section s x b
  runs c = record { is_accepted = body_accepted library section s x c.is_body; defaults = defaults_tested c.defaults }

  rejected_one : {n k : ℕ} {p q : Place} → ◌≡◌ {A = Judged Trial} (rejected n p) (rejected k q) → (n ≡ k) × (p ≡ q)
  rejected_one e = (cc, cc)

  as_said : {n k : ℕ} {p q : Place} → RunSaysNo library section s x budget n p → n ≡ k → p ≡ q → RunSaysNo library section s x budget k q
  as_said no' a b = rw (← a, ← b) no'

  module _ {number : ℕ} {place : Place} where
    parameters_no : {b : Body} → IsBody library section s x b → budget ≤ most_budget → (t : Bool) → every has_default b.function.parameters ≡ t
        → cond t (accepted (trial_of b budget)) (rejected no_default (plain 0)) ≡ rejected number place → RunSaysNo library section s x budget number place
    parameters_no is small true e f = absurd (accepted_is_not_rejected f)
    parameters_no is small false e f =
        let (a, b) = rejected_one f in
        as_said (by_parameters is small (λ ds. false≢true (sym e ∙ defaults_tested ds))) a b

    budget_no : {b : Body} → IsBody library section s x b → (t : Bool) → ltb most_budget budget ≡ t → cond t (rejected oversize (plain 0)) (with_parameters b budget) ≡ rejected number place → RunSaysNo library section s x budget number place
    budget_no is true e f = let (a, b) = rejected_one f in as_said (by_budget is (ltb-true _ _ e)) a b
    budget_no {b} is false e f = parameters_no is (ltb-false _ _ e) (every has_default b.function.parameters) refl f

    run-no : trial_run library section s x budget ≡ rejected number place → RunSaysNo library section s x budget number place
    unfolding trial_run
    run-no e = go (judge_body library section s x) refl e
      where
        go : (j : Judged Body) → judge_body library section s x ≡ j → and_then j (λ b. cond (ltb most_budget budget) (rejected oversize (plain 0)) (with_parameters b budget)) ≡ rejected number place → RunSaysNo library section s x budget number place
        go (rejected n p) judged f = let (a, b) = rejected_one f in as_said (by_body (body-no library section s x judged)) a b
        go (accepted b) judged f = budget_no (accepted_body library section s x judged) (ltb most_budget budget) refl f

  -- a run that is let in
  run-yes : {t : Trial} → trial_run library section s x budget ≡ accepted t → (b : Body) × CanRun library section s x budget b
  unfolding trial_run
  run-yes {t} e = go (judge_body library section s x) refl e
    where
      by_parameters_yes : (b : Body) → IsBody library section s x b → budget ≤ most_budget → (d : Bool) → every has_default b.function.parameters ≡ d
          → cond d (accepted (trial_of b budget)) (rejected no_default (plain 0)) ≡ accepted t → (b : Body) × CanRun library section s x budget b
      by_parameters_yes b is small true all f = (b, record { is_body = is; within_budget = small; defaults = tested_defaults _ all })
      by_parameters_yes b is small false all f = absurd (accepted_is_not_rejected (sym f))

      by_budget_yes : (b : Body) → IsBody library section s x b → (large : Bool) → ltb most_budget budget ≡ large
          → cond large (rejected oversize (plain 0)) (with_parameters b budget) ≡ accepted t → (b : Body) × CanRun library section s x budget b
      by_budget_yes b is true q f = absurd (accepted_is_not_rejected (sym f))
      by_budget_yes b is false q f = by_parameters_yes b is (ltb-false _ _ q) (every has_default b.function.parameters) refl f

      go : (j : Judged Body) → judge_body library section s x ≡ j → and_then j (λ b. cond (ltb most_budget budget) (rejected oversize (plain 0)) (with_parameters b budget)) ≡ accepted t
          → (b : Body) × CanRun library section s x budget b
      go (rejected n p) judged f = absurd (accepted_is_not_rejected (sym f))
      go (accepted b) judged f = by_budget_yes b (accepted_body library section s x judged) (ltb most_budget budget) refl f

  no_defaults : (b : Body) → ¬ Each Default b.function.parameters → every has_default b.function.parameters ≡ false
  no_defaults b none_there_lem = go (every has_default b.function.parameters) refl
    where
      go : (t : Bool) → every has_default b.function.parameters ≡ t → t ≡ false
      go true e = absurd (none_there_lem (tested_defaults _ e))
      go false e = refl

  no_run : {number : ℕ} {place : Place} → RunSaysNo library section s x budget number place → trial_run library section s x budget ≡ rejected number place
  unfolding trial_run
  no_run (by_body no') = rw (no_body library section s x no')
  no_run (by_budget is large) = rw (body_accepted library section s x is, lt-ltb _ _ large)
  no_run (by_parameters {b = b} is small none_there_lem) = rw (body_accepted library section s x is, le-ltb _ _ small, no_defaults b none_there_lem)

  run_never_14 : (place : Place) → trial_run library section s x budget ≡ rejected buffer_too_small place → ⊥
  run_never_14 place e = go (run-no e) refl
    where
      go : {n : ℕ} {p : Place} → RunSaysNo library section s x budget n p → n ≡ buffer_too_small → ⊥
      go (by_body {place = p} no') q = body_never_14 library section s x p (rw q at (no_body library section s x no'))
      go (by_budget is large) q = omega arith
      go (by_parameters is small none_there_lem) q = omega arith

-- how it stops

stopped : (s : List ℕ) {b : Body} {budget most : ℕ} (e : Ending) → EndsWell b budget e → counting.is_spent e ≡ false → steps_of e ≤ most → Stops most (ran_as s e)
stopped s e (is_done few reaches ends typed) f within = stops_done within
stopped s e (is_trapped few reaches traps trap typed) f within = stops_at_trap trap within
stopped s e (is_spent reaches typed) f within = absurd (false≢true (sym f))

-- no refusal
ended-no : {r : Ran} → Ended r → {n : ℕ} {p : Place} → r ≡ Ran.TheVariants.Refused n p → ⊥
ended-no ended_done e = contradiction cc
ended-no ended_at_trap e = contradiction cc
ended-no ended_spent e = contradiction cc

-- the second of the counts
second_count : (s : List ℕ) (m : Machine) (buffer : List ℕ) → get_elem? (filled buffer (state_words s m).counts) 1 ≡ some (length m.heap)
unfolding state_words
second_count s m buffer = refl

module _ {library section s : List ℕ} {x budget : ℕ} {m m' : RunMemory} {r : Ran} (promise : RunTried library section s x budget m m' r) where
  own_call : RunSuffices m → run_call library section s x budget m ≡ trial_run library section s x budget
  own_call t = lent-call (run_lent m) (trial_run library section s x budget) (run_lent_lem m t)

  called : {b : Body} → RunSuffices m → CanRun library section s x budget b → run_call library section s x budget m ≡ accepted (trial_of b budget)
  called t c = own_call t ∙ can_run library section s x budget c

  said : {number : ℕ} {place : Place} → r ≡ Ran.TheVariants.Refused number place → run_call library section s x budget m ≡ rejected number place
  said e = ran_no s (run_call library section s x budget m) (sym promise.answer ∙ e)

  says : {number : ℕ} {place : Place} → run_call library section s x budget m ≡ rejected number place → r ≡ Ran.TheVariants.Refused number place
  says e = promise.answer ∙ ap (ran_of s) e

  fourteen : (place : Place) → r ≡ Ran.TheVariants.Refused buffer_too_small place → RunShort m × (place ≡ plain 0)
  fourteen place e =
      lent-no (run_lent m) (trial_run library section s x budget) (said e)
      (λ short at. (run_is_short m short, at))
      (λ suffices no'. absurd (run_never_14 library section s x budget place no'))

  module _ (b : Body) (t : RunSuffices m) (c : CanRun library section s x budget b) where
    abbrev ending : Ending
    ending = run (program_of b) budget 0 (start_of b)

    held : (part : StateWords → List ℕ) → state_after s part m (run_call library section s x budget m) ≡ filled (part m.state) (part (state_words s (machine_of ending)))
    held part = ap (state_after s part m) (called t c)

    ran_soundly : RanSoundly s b budget m m' r
    ran_soundly =
        record {
          ending = ending;
          ends_well = soundness.ended (runs library section s x budget c) budget;
          answer = promise.answer ∙ ap (ran_of s) (called t c);
          counts = promise.counts ∙ held (λ w. w.counts);
          objects = promise.objects ∙ held (λ w. w.objects);
          cells = promise.cells ∙ held (λ w. w.cells);
          locals = promise.locals ∙ held (λ w. w.locals);
          operands = promise.operands ∙ held (λ w. w.operands);
          blocks = promise.blocks ∙ held (λ w. w.blocks);
        }

    by_rules : (first : Machine) → Begins b first → RunsTo (program_of b) budget 0 first ran_soundly.ending
    unfolding ran_soundly
    by_rules first begins =
        (run_by_rules.runs (program_of b) budget 0 first ending).0 (ap (run (program_of b) budget 0) (sym ((run_by_rules.begins b first).0 begins)))

    state-held : HoldsState (state_words s (machine_of ran_soundly.ending)) m'.state
    state-held =
        record {
          counts = filled-holds m.state.counts ran_soundly.counts;
          objects = filled-holds m.state.objects ran_soundly.objects;
          cells = filled-holds m.state.cells ran_soundly.cells;
          locals = filled-holds m.state.locals ran_soundly.locals;
          operands = filled-holds m.state.operands ran_soundly.operands;
          blocks = filled-holds m.state.blocks ran_soundly.blocks;
        }

    objects_made : get_elem? m'.state.counts 1 ≡ some (allocations (program_of b) (taken (program_of b) budget (start_of b)))
    unfolding ran_soundly run
    objects_made =
        ap (λ (ws : List ℕ). get_elem? ws 1) ran_soundly.counts
        ∙ second_count s (machine_of ending) m.state.counts
        ∙ ap some (objects_counted (program_of b) budget 0 (start_of b) refl)

    without_loop : has_loop b.code ≡ false → instructions b ≤ budget → Stops (instructions b) r
    unfolding ran_soundly run
    without_loop free enough =
        let judged = body_accepted library section s x c.is_body in
        let all = stopped s ending ran_soundly.ends_well (loopless_stops library section s x judged free budget enough) (loopless_steps library section s x judged free budget) in
        rw ran_soundly.answer all

  only_then_lem : Ended r → RunSuffices m × ((b : Body) × CanRun library section s x budget b)
  only_then_lem ended = go (run_call library section s x budget m) refl
    where
      go : (v : Judged Trial) → run_call library section s x budget m ≡ v → RunSuffices m × ((b : Body) × CanRun library section s x budget b)
      go (rejected n p) e = absurd (ended-no ended (says e))
      go (accepted t) e =
          let (lent, verdict) = lent-yes (run_lent m) (trial_run library section s x budget) e in
          (run_suffices m lent, run-yes library section s x budget verdict)

  all_wiped : {number : ℕ} {place : Place} → run_call library section s x budget m ≡ rejected number place → Wiped m.state m'.state
  all_wiped e =
      record {
        counts = wiped-zero (promise.counts ∙ ap (state_after s (λ w. w.counts) m) e);
        objects = wiped-zero (promise.objects ∙ ap (state_after s (λ w. w.objects) m) e);
        cells = wiped-zero (promise.cells ∙ ap (state_after s (λ w. w.cells) m) e);
        locals = wiped-zero (promise.locals ∙ ap (state_after s (λ w. w.locals) m) e);
        operands = wiped-zero (promise.operands ∙ ap (state_after s (λ w. w.operands) m) e);
        blocks = wiped-zero (promise.blocks ∙ ap (state_after s (λ w. w.blocks) m) e);
      }

  pub of_run : OfRun promise
  of_run =
      record {
        ran = ran_soundly;
        ruled = by_rules;
        state = state-held;
        only_then = only_then_lem;
        objects = objects_made;
        loopless = without_loop;
        never = λ b number place t c e. accepted_is_not_rejected (sym (called t c) ∙ said e);
        short = (λ e. (fourteen (plain 0) e).0, λ t. says (short_call (run_lent m) (trial_run library section s x budget) (short_run m t)));
        only = fourteen;
        refused = λ number place t. (λ e. run-no library section s x budget (sym (own_call t) ∙ said e), λ e. says (own_call t ∙ no_run library section s x budget e));
        wipes = λ number place e. all_wiped (said e);
        scratch = (wiped-zero promise.rows_after, wiped-zero promise.shared_after, wiped-zero promise.codes_after, wiped-zero promise.work_after, wiped-zero promise.ends_after);
      }
