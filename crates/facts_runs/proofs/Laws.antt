-- The laws of the trial run hold: each is proved in the file that is named here.
use Rattle.facts_runs.specs.Laws.{RunLaws}
use Rattle.facts_runs.proofs.Budgets.{within_steps, steps_within, run_of_sum, spent_steps, larger_budget}
use Rattle.facts_runs.proofs.LargerBudget.{trial_larger, promise_larger}
use Rattle.facts_runs.proofs.Allocations.{objects_counted, steps_taken}
use Rattle.facts_runs.proofs.Loopless.{loopless_stops, loopless_steps}

pub run_laws : RunLaws
run_laws =
    record {
      objects = objects_counted;
      steps = steps_taken;
      stops = λ library section s x b e free. loopless_stops library section s x e free;
      within = λ library section s x b e free. loopless_steps library section s x e free;
      larger = larger_budget;
      verdict = λ library section s x n j. trial_larger n j library section s x;
      promise = λ library section s x n j fits e m m' r. promise_larger n j fits e;
      sum = λ p n j k m steps after. run_of_sum p n j k m;
      counted = λ p n k m steps after. spent_steps p n k m;
      bounded = λ p n k m. within_steps (steps_within p n k m);
    }
