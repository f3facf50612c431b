-- The trial run: a run with a budget, how it starts, and its verdict: "A run: these, then budget, then parameters."
use Rattle.std.specs.Prelude.{ℕ, zero, suc, ◌+◌, cond, List, [], ◌∷◌, ◌++◌, map, length, ltb}
use Rattle.scope.specs.Sizes.{most_budget}
use Rattle.scope.specs.Refusals.{oversize, no_default}
use Rattle.scope.specs.Lists.{every}
use Rattle.scope.specs.Syntax.{types_of}
use Rattle.scope.specs.Judging.{plain, Judged, accepted, rejected, and_then}
use Rattle.scope.specs.BodyRules.{has_default}
use Rattle.scope.specs.Bodies.{Code, Body, judge_body}
use Rattle.scope.specs.Machine.{Machine, Program, OutcomeOf, goes, ends, traps, stuck, default_of, step}

-- "The answer holds done with results, trap with place, or spent; and the steps": each with the steps and the machine after
-- exactly those steps. A trap has its number; "a trapping step changes none of them". `wrong`: no accepted body comes to it.
pub data EndingOf (M : Type 0) : Type 0 where
  done : ℕ → M → EndingOf M
  trapped : ℕ → ℕ → M → EndingOf M
  spent : ℕ → M → EndingOf M
  wrong : ℕ → M → EndingOf M

abbrev pub Ending : Type 0
Ending = EndingOf Machine

abbrev pub on_outcome : {M : Type 0} → OutcomeOf M → ℕ → M → (M → EndingOf M) → EndingOf M
on_outcome (goes later) steps m more = more later
on_outcome (ends later) steps m more = done (steps + 1) later
on_outcome (traps number) steps m more = trapped number (steps + 1) m
on_outcome stuck steps m more = wrong steps m

-- the run of any machine by its step: so many steps are left of the budget, so many are done
unfoldable pub run_by : {M : Type 0} → (M → OutcomeOf M) → ℕ → ℕ → M → EndingOf M
run_by next zero steps m = spent steps m
run_by next (suc left) steps m = on_outcome (next m) steps m (λ later. run_by next left (steps + 1) later)

unfoldable pub run : Program → ℕ → ℕ → Machine → Ending
run p left steps m = run_by (step p) left steps m

-- "It starts with an empty heap, zero or null parameters .. A local with a default starts at it; any other holds no value, .."
abbrev pub start_of : Body → Machine
start_of b =
    record { heap = []; locals = map default_of (b.function.parameters ++ b.locals); operands = []; blocks = []; code = b.code }

abbrev pub program_of : Body → Program
program_of b = record { types = types_of b.types; results = length b.function.results }

-- how the run of an accepted body ends
pub record Trial : Type 0 where
  pub body : Body
  pub ending : Ending

abbrev pub trial_of : Body → ℕ → Trial
trial_of b budget = record { body = b; ending = run (program_of b) budget 0 (start_of b) }

-- 29: for a run's parameters, place 0
abbrev pub with_parameters : Body → ℕ → Judged Trial
with_parameters b budget =
    let trial = accepted (trial_of b budget) in
    cond (every has_default b.function.parameters) trial (rejected no_default (plain 0))

unfoldable pub trial_run : List ℕ → List ℕ → List ℕ → ℕ → ℕ → Judged Trial
trial_run library section s x budget =
    and_then (judge_body library section s x) (λ b.
    let allowed = with_parameters b budget in
    cond (ltb most_budget budget) (rejected oversize (plain 0)) allowed)

-- the place: of the next instruction, of the trapping one after a trap, the body's length when done
abbrev pub place_of : List ℕ → Code → ℕ
place_of s [] = length s
place_of s (i ∷ code) = i.0
