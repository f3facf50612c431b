-- A run is its steps, and each step is a rule's: by recursion on what is left of the budget.
use Prim.Native.Nat.{ℕ, zero, suc, ◌+◌}
use mathlib.Core.Path.{◌≡◌, refl, sym, ap, subst}
use mathlib.Core.Logic.{◌↔◌}
use mathlib.Core.Bool.{true, false}
use mathlib.Core.Option.{Option}
use mathlib.Core.List.{List, [], ◌∷◌, ◌++◌, map}
use Rattle.scope.specs.Syntax.{Val, num, ref}
use Rattle.scope.specs.Bodies.{Body}
use Rattle.scope.specs.Machine.{Value, Machine, Program, Outcome, goes, ends, traps, stuck, default_of, step}
use Rattle.scope.specs.Running.{Ending, on_outcome, run_by, run, start_of}
use Rattle.facts_steps.specs.Laws.{StepOf}
use Rattle.facts_steps.specs.Runs.{HeldFirst, zero_first, null_first, nothing_first, AllHeldFirst, no_locals, one_local, Begins, RunsTo, none_left_lem, one-step, last_step, trapping_step, no_step, RunByRules}
use Rattle.facts_steps.proofs.Is.{step_is}
use Rattle.facts_steps.proofs.Laws.{step_laws}

-- the start

held_first : (v : Val) → HeldFirst v (default_of v)
held_first (num k) = zero_first
held_first (ref true h) = null_first
held_first (ref false h) = nothing_first

only_held : {v : Val} {o : Option Value} → HeldFirst v o → default_of v ≡ o
only_held zero_first = refl
only_held null_first = refl
only_held nothing_first = refl

all_held : (vs : List Val) → AllHeldFirst vs (map default_of vs)
all_held [] = no_locals
all_held (v ∷ vs) = one_local (held_first v) (all_held vs)

only_all_held : {vs : List Val} {os : List (Option Value)} → AllHeldFirst vs os → map default_of vs ≡ os
only_all_held no_locals = refl
only_all_held (one_local h more) = rw (only_held h, only_all_held more)

begins_start : (b : Body) → Begins b (start_of b)
begins_start b = record { heap = refl; locals = all_held (b.function.parameters ++ b.locals); operands = refl; blocks = refl; code = refl }

start_begins : (b : Body) (m : Machine) → Begins b m → start_of b ≡ m
start_begins b m s = rw (only_all_held s.locals, ← s.heap, ← s.operands, ← s.blocks, ← s.code)

-- the run

run-said : (p : Program) (left steps : ℕ) (m : Machine) → RunsTo p left steps m (run p left steps m)
unfolding run run_by
run-said p zero steps m = none_left_lem
run-said p (suc left) steps m = go (step p m) refl (λ next. run-said p left (steps + 1) next)
  where
    go : (o : Outcome) → step p m ≡ o → ((next : Machine) → RunsTo p left (steps + 1) next (run p left (steps + 1) next))
        → RunsTo p (suc left) steps m (on_outcome o steps m (λ later. run_by (step p) left (steps + 1) later))
    go (goes next) e later = one-step ((step_laws.goes_on_lem p m next).0 e) (later next)
    go (ends last) e later = last_step ((step_laws.is_done_lem p m last).0 e)
    go (traps n) e later = trapping_step ((step_laws.trapping p m n).0 e)
    go stuck e later = no_step ((step_laws.nowhere p m).0 e)

run_is : {p : Program} {left steps : ℕ} {m : Machine} {e : Ending} → RunsTo p left steps m e → run p left steps m ≡ e
unfolding run run_by
run_is none_left_lem = refl
run_is {p} (one-step {m = m} s more) = rw (step_is p m s) (run_is more)
run_is {p} (last_step {m = m} s) = rw (step_is p m s)
run_is {p} (trapping_step {m = m} s) = rw (step_is p m s)
run_is {p} (no_step {m = m} none-says) = rw ((step_laws.nowhere p m).1 none-says)

pub run_by_rules : RunByRules
run_by_rules =
    record {
      begins = λ b m. (start_begins b m, λ e. subst (Begins b) e (begins_start b));
      runs = λ p left steps m e. ((λ is. subst (RunsTo p left steps m) is (run-said p left steps m)), run_is);
    }
