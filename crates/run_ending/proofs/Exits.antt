-- Each way out: where the run stands and how it ended are read off the ending's case.
use Prim.Native.Nat.{ℕ}
use mathlib.Core.Path.{◌≡◌, refl}
use Rattle.scope.specs.declared.Ran.{Ran}
use Rattle.scope.specs.declared.Ran
use Rattle.run_state.specs.declared.Stage.{Stage}
use Rattle.run_state.specs.Machines.{start_stage}
use Rattle.run_turn.specs.declared.Ending.{Ending}
use Rattle.run_turn.specs.declared.Ending
use Rattle.run_turn.specs.Endings.{stage_of}
use Rattle.run_ending.specs.Telling.{tell_of}

module _ (first : ℕ) {ended : Ending} where
  pub stage_done : {st : Stage} {steps : ℕ} → ended ≡ Ending.TheVariants.Done st steps → st ≡ stage_of first ended
  stage_done e = rw e refl

  pub stage_trapped : {number : ℕ} {st : Stage} {steps : ℕ} → ended ≡ Ending.TheVariants.Trapped number st steps → st ≡ stage_of first ended
  stage_trapped e = rw e refl

  pub stage_spent : {st : Stage} {steps : ℕ} → ended ≡ Ending.TheVariants.Spent st steps → st ≡ stage_of first ended
  stage_spent e = rw e refl

  pub stage_astray : ended ≡ Ending.TheVariants.Astray → start_stage first ≡ stage_of first ended
  stage_astray e = rw e refl

  pub tell_done : {st : Stage} {steps : ℕ} → ended ≡ Ending.TheVariants.Done st steps → Ran.TheVariants.Done steps st.height ≡ tell_of first ended
  tell_done e = rw e refl

  pub tell_trapped :
      {number : ℕ} {st : Stage} {steps : ℕ} → ended ≡ Ending.TheVariants.Trapped number st steps
      → Ran.TheVariants.Trapped number st.place steps ≡ tell_of first ended
  tell_trapped e = rw e refl

  pub tell_spent : {st : Stage} {steps : ℕ} → ended ≡ Ending.TheVariants.Spent st steps → Ran.TheVariants.Spent steps ≡ tell_of first ended
  tell_spent e = rw e refl

  pub tell_astray : ended ≡ Ending.TheVariants.Astray → Ran.TheVariants.Trapped 0 first 0 ≡ tell_of first ended
  tell_astray e = rw e refl

pub ruleset ending_exits = (stage_done, stage_trapped, stage_spent, stage_astray, tell_done, tell_trapped, tell_spent, tell_astray)
