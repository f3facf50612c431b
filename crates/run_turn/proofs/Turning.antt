-- Each way out, by what the step came to; and what comes after a step is what the written run does with its outcome.
use Prim.Native.Nat.{ℕ, ◌+◌}
use mathlib.Core.Path.{◌≡◌, refl, ap}
use mathlib.Core.List.{List}
use Rattle.scope.specs.Machine.{Machine}
use Rattle.scope.specs.Running as running
use Rattle.scope.specs.Running.{on_outcome, trapped}
use Rattle.run_state.specs.declared.Stage.{Stage}
use Rattle.run_state.specs.declared.Stepped.{Stepped}
use Rattle.run_state.specs.declared.Stepped
use Rattle.run_state.specs.Machines.{Words, machine_at}
use Rattle.run_state.specs.Moved.{outcome_at}
use Rattle.run_turn.specs.declared.Ending
use Rattle.run_turn.specs.declared.Turn.{Turn}
use Rattle.run_turn.specs.declared.Turn
use Rattle.run_turn.specs.Endings.{ending_at}
use Rattle.run_turn.specs.Turns.{turn_of}

module _ {r : Stepped} (st : Stage) (steps : ℕ) where
  pub turn_astray : r ≡ Stepped.TheVariants.Astray → Turn.TheVariants.Over Ending.TheVariants.Astray ≡ turn_of r st steps
  turn_astray e = rw e refl

  pub turn_trapped : {number : ℕ} → r ≡ Stepped.TheVariants.Traps number → Turn.TheVariants.Over (Ending.TheVariants.Trapped number st (steps + 1)) ≡ turn_of r st steps
  turn_trapped e = rw e refl

  pub turn_done : {later : Stage} → r ≡ Stepped.TheVariants.Ends later → Turn.TheVariants.Over (Ending.TheVariants.Done later (steps + 1)) ≡ turn_of r st steps
  turn_done e = rw e refl

  pub turn_on : {later : Stage} → r ≡ Stepped.TheVariants.Goes later → Turn.TheVariants.On later (steps + 1) ≡ turn_of r st steps
  turn_on e = rw e refl

pub ruleset turn_exits = (turn_astray, turn_trapped, turn_done, turn_on)

-- the ending of the run, by what comes next: `more` is the run after so many steps, from there
unfoldable pub comes_to : List ℕ → ℕ → Words → ℕ → (ℕ → Machine → running.Ending) → Turn → running.Ending
comes_to s count w first more (Turn.TheVariants.On later steps) = more steps (machine_at s count w later)
comes_to s count w first more (Turn.TheVariants.Over ended) = ending_at s count w first ended

pub turn_means :
    (s : List ℕ) (count : ℕ) (w : Words) (first : ℕ) (more : ℕ → Machine → running.Ending) (m : Machine) (st : Stage) (steps : ℕ) (r : Stepped)
    → (r ≡ Stepped.TheVariants.Astray → ⊥) → ((number : ℕ) → r ≡ Stepped.TheVariants.Traps number → m ≡ machine_at s count w st)
    → on_outcome (outcome_at s count w r) steps m (more (steps + 1)) ≡ comes_to s count w first more (turn_of r st steps)
unfolding outcome_at ending_at comes_to
turn_means s count w first more m st steps (Stepped.TheVariants.Goes later) n same = refl
turn_means s count w first more m st steps (Stepped.TheVariants.Ends later) n same = refl
turn_means s count w first more m st steps (Stepped.TheVariants.Traps number) n same = ap (trapped number (steps + 1)) (same number refl)
turn_means s count w first more m st steps Stepped.TheVariants.Astray n same = absurd (n refl)
