-- The step is the rules, both ways, and each trap exactly when.
use Prim.Native.Nat.{ℕ}
use mathlib.Core.Path.{◌≡◌, refl, sym, ◌∙◌, subst}
use mathlib.Core.Logic.{◌↔◌}
use mathlib.Core.List.{List}
use Rattle.scope.specs.Refusals.{trap_unreachable, trap_null, trap_null_descriptor, trap_cast, trap_no_room, trap_other_numeric}
use Rattle.scope.specs.Instructions.{Op, unreachable}
use Rattle.scope.specs.Bodies.{Code}
use Rattle.scope.specs.Machine.{Value, Block, Machine, Program, Outcome, goes, ends, traps, stuck, do_op, step}
use Rattle.scope.proofs.Impossible.{contradiction}
use Rattle.facts_steps.specs.Trapping.{Traps, trap_41, trap_42, trap_43, trap_44, trap_45, trap_46}
use Rattle.facts_steps.specs.Rules.{Does, Steps, steps_block, steps_loop, steps_block_end, steps_loop_end, steps_function_end, steps_op}
use Rattle.facts_steps.specs.Laws.{StepOf, StepLaws, TrapLaws}
use Rattle.facts_steps.proofs.Said.{Said, said, silent}
use Rattle.facts_steps.proofs.Told.{op_told, step-told}
use Rattle.facts_steps.proofs.Is.{op_is, step_is, trap_is}
use Rattle.facts_steps.proofs.Trapped.{Tells, going, ending, trapping, told_trap, told-not_stuck, finish_tells, op_tells, forty_one_only, forty_two_only, forty_three_only, forty_four_only, forty_five_only, forty_six_only}

-- an outcome that is not stuck is said
spoken : {R : Outcome → Type 0} {r q : Outcome} → Said R r → r ≡ q → (q ≡ stuck → ⊥) → R q
spoken {R} (said x) e apart = subst R e x
spoken silent e apart = absurd (apart (sym e))

goes_apart : {m : Machine} → ◌≡◌ {A = Outcome} (goes m) stuck → ⊥
goes_apart e = contradiction cc

ends_apart : {m : Machine} → ◌≡◌ {A = Outcome} (ends m) stuck → ⊥
ends_apart e = contradiction cc

traps_apart : {n : ℕ} → ◌≡◌ {A = Outcome} (traps n) stuck → ⊥
traps_apart e = contradiction cc

step_tells : (p : Program) (m : Machine) {r : Outcome} → StepOf p m r → Tells (λ n. Unit {0}) r
step_tells p m s = go s
  where
    also : {P : ℕ → Type 0} {r : Outcome} → Tells P r → Tells (λ n. Unit {0}) r
    also going = going
    also ending = ending
    also (trapping t) = trapping tt

    go : {blocks : List Block} {code : Code} {r : Outcome} → Steps p m.heap m.locals m.operands blocks code r → Tells (λ n. Unit {0}) r
    go steps_block = going
    go steps_loop = going
    go steps_block_end = going
    go steps_loop_end = going
    go (steps_function_end f) = finish_tells f
    go (steps_op d) = also (op_tells d)

stuck_where : (p : Program) (m : Machine) → ((r : Outcome) → ¬ StepOf p m r) → step p m ≡ stuck
stuck_where p m none-says = go (step p m) (step-told p m)
  where
    go : (r : Outcome) → Said (StepOf p m) r → r ≡ stuck
    go r (said x) = absurd (none-says r x)
    go r silent = refl

pub step_laws : StepLaws
step_laws =
    record {
      goes_on_lem = λ p m after. ((λ e. spoken (step-told p m) e goes_apart), λ s. step_is p m s);
      is_done_lem = λ p m after. ((λ e. spoken (step-told p m) e ends_apart), λ s. step_is p m s);
      trapping = λ p m n. ((λ e. spoken (step-told p m) e traps_apart), λ s. step_is p m s);
      nowhere = λ p m. ((λ e r s. told-not_stuck (step_tells p m s) (sym (step_is p m s) ∙ e)), λ none-says. stuck_where p m none-says);
    }

-- traps

trap_told : (p : Program) (m : Machine) (o : Op) {n : ℕ} → do_op p m m.operands o ≡ traps n → Traps p.types m.heap m.operands o n
trap_told p m o e = told_trap (op_tells (spoken (op_told p m.heap m.locals m.blocks m.code m.operands o) e traps_apart)) refl

trap_done : (p : Program) (m : Machine) {o : Op} {n : ℕ} → Traps p.types m.heap m.operands o n → do_op p m m.operands o ≡ traps n
trap_done p m t = trap_is p m.heap m.locals m.blocks m.code t

pub trap_laws : TrapLaws
trap_laws =
    record {
      forty_one = λ p m o. ((λ e. forty_one_only (trap_told p m o e) refl), λ is. trap_done p m (rw is trap_41));
      forty_two = λ p m o. ((λ e. forty_two_only (trap_told p m o e) refl), λ u. trap_done p m (trap_42 u));
      forty_three = λ p m o. ((λ e. forty_three_only (trap_told p m o e) refl), λ u. trap_done p m (trap_43 u));
      forty_four = λ p m o. ((λ e. forty_four_only (trap_told p m o e) refl), λ u. trap_done p m (trap_44 u));
      forty_five = λ p m o. ((λ e. forty_five_only (trap_told p m o e) refl), λ u. trap_done p m (trap_45 u));
      forty_six = λ p m o. ((λ e. forty_six_only (trap_told p m o e) refl), λ u. trap_done p m (trap_46 u));
    }
