-- The ending in lent memory is the written run's: told the same, and at the same machine.
use Prim.Native.Nat.{ℕ}
use mathlib.Core.Path.{◌≡◌, refl, sym, ap}
use mathlib.Core.List.{List, ◌∷◌}
use Rattle.scope.specs.declared.Ran.{Ran}
use Rattle.scope.specs.declared.Ran
use Rattle.scope.specs.Memory.{state_words}
use Rattle.scope.specs.Answers.{machine_of, ran_as}
use Rattle.run_stack.proofs.Laws.{pile-length}
use Rattle.run_state.specs.Machines.{Words, machine_at}
use Rattle.run_state.specs.Written.{StateTold}
use Rattle.run_turn.specs.declared.Ending.{Ending}
use Rattle.run_turn.specs.declared.Ending
use Rattle.run_turn.specs.Endings.{stage_of, ending_at}
use Rattle.run_ending.specs.Telling.{tell_of}

head_same : {a b : ℕ} {more others : List ℕ} → a ∷ more ≡ b ∷ others → a ≡ b
head_same e = cc

-- what is told is how the written run ended
pub told-ending :
    (s : List ℕ) (count : ℕ) (w : Words) (first : ℕ) (ended : Ending)
    → StateTold count w (stage_of first ended) (state_words s (machine_at s count w (stage_of first ended)))
    → tell_of first ended ≡ ran_as s (ending_at s count w first ended)
unfolding ending_at state_words machine_at
told-ending s count w first (Ending.TheVariants.Done st steps) t = ap (Ran.TheVariants.Done steps) (sym (pile-length w.operands st.base st.height))
told-ending s count w first (Ending.TheVariants.Trapped number st steps) t = ap (λ (place : ℕ). Ran.TheVariants.Trapped number place steps) (sym (head_same t.counts))
told-ending s count w first (Ending.TheVariants.Spent st steps) t = refl
told-ending s count w first Ending.TheVariants.Astray t = ap (λ (place : ℕ). Ran.TheVariants.Trapped 0 place 0) (sym (head_same t.counts))

pub told-machine : (s : List ℕ) (count : ℕ) (w : Words) (first : ℕ) (ended : Ending) → machine_at s count w (stage_of first ended) ≡ machine_of (ending_at s count w first ended)
unfolding ending_at
told-machine s count w first (Ending.TheVariants.Done st steps) = refl
told-machine s count w first (Ending.TheVariants.Trapped number st steps) = refl
told-machine s count w first (Ending.TheVariants.Spent st steps) = refl
told-machine s count w first Ending.TheVariants.Astray = refl
