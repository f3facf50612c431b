-- The trial run by the rules: where it begins, and what it comes to within a budget, a rule for each step. "It starts with an empty
-- heap, zero or null parameters .. A local with a default starts at it; any other holds no value, and so no reference, until it is
-- set." "The answer holds done with results, trap with place, or spent; and the steps."
use Rattle.std.specs.Prelude.{ℕ, zero, suc, ◌+◌, ◌≡◌, ◌↔◌, true, false, List, [], ◌∷◌, ◌++◌, length}
use Rattle.std.proofs.Math.Option.{Option, none, some}
use Rattle.scope.specs.Syntax.{Heap, Number, Val, num, ref}
use Rattle.scope.specs.Bodies.{Body}
use Rattle.scope.specs.Machine.{Value, number, null, Machine, Program, Outcome, goes, ends, traps}
use Rattle.scope.specs.Running.{Ending, done, trapped, spent, wrong, run, start_of, program_of}
use Rattle.facts_steps.specs.Laws.{StepOf}

-- what a local of this type holds at first
pub data HeldFirst : Val → Option Value → Type 0 where
  zero_first : {k : Number} → HeldFirst (num k) (some (number k 0))
  null_first : {h : Heap} → HeldFirst (ref true h) (some null)
  nothing_first : {h : Heap} → HeldFirst (ref false h) none

pub data AllHeldFirst : List Val → List (Option Value) → Type 0 where
  no_locals : AllHeldFirst [] []
  one_local : {v : Val} {o : Option Value} {vs : List Val} {os : List (Option Value)} → HeldFirst v o → AllHeldFirst vs os → AllHeldFirst (v ∷ vs) (o ∷ os)

pub record Begins (b : Body) (m : Machine) : Type 0 where
  pub heap : m.heap ≡ []
  -- the parameters, then the body's own
  pub locals : AllHeldFirst (b.function.parameters ++ b.locals) m.locals
  pub operands : m.operands ≡ []
  pub blocks : m.blocks ≡ []
  pub code : m.code ≡ b.code

-- with so many steps left, after so many steps, this machine comes to this ending
pub data RunsTo (p : Program) : ℕ → ℕ → Machine → Ending → Type 0 where
  none_left_lem : {steps : ℕ} {m : Machine} → RunsTo p zero steps m (spent steps m)
  one-step : {left steps : ℕ} {m next : Machine} {e : Ending} → StepOf p m (goes next) → RunsTo p left (steps + 1) next e → RunsTo p (suc left) steps m e
  last_step : {left steps : ℕ} {m last : Machine} → StepOf p m (ends last) → RunsTo p (suc left) steps m (done (steps + 1) last)
  -- "a trapping step changes none of them"
  trapping_step : {left steps n : ℕ} {m : Machine} → StepOf p m (traps n) → RunsTo p (suc left) steps m (trapped n (steps + 1) m)
  -- of no accepted body: no rule has a word for this machine
  no_step : {left steps : ℕ} {m : Machine} → ((r : Outcome) → ¬ StepOf p m r) → RunsTo p (suc left) steps m (wrong steps m)

pub record RunByRules : Type 0 where
  pub begins : (b : Body) (m : Machine) → Begins b m ↔ (start_of b ≡ m)
  pub runs : (p : Program) (left steps : ℕ) (m : Machine) (e : Ending) → (run p left steps m ≡ e) ↔ RunsTo p left steps m e
