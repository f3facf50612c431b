-- Each way out of taking one operand from the top.
use Prim.Native.Nat.{ℕ, ◌+◌, ◌-◌}
use mathlib.Core.Path.{◌≡◌, refl, sym, ◌∙◌}
use mathlib.Core.Bool.{Bool, true, false, cond}
use mathlib.Core.List.{List, [], ◌∷◌}
use Rattle.scope.specs.Refusals.{bad_operand, only_null}
use Rattle.scope.specs.Syntax.{Types}
use Rattle.scope.specs.Bodies.{fit, operand_test, take_all, Operand, unknown}
use Rattle.scope.specs.BodyRules.{Wanted, allowed, fault}
use Rattle.lent_u32.specs.Scratch.{Word32At}
use Rattle.type_fit.specs.declared.Fit.{Fit}
use Rattle.type_fit.specs.declared.Fit
use Rattle.type_fit.specs.Outcomes.{fit_is}
use Rattle.type_fit.proofs.Outcomes.{is_fits, is_but_for_null, is_unfit}
use Rattle.body_state.specs.Layout.{operands_from}
use Rattle.body_state.specs.State.{operand_at_code, wanted_at_code, stack}
use Rattle.body_words.proofs.Laws.{stack-none, stack_some}
use Rattle.body_take.specs.declared.Take.{Take}
use Rattle.body_take.specs.declared.Take
use Rattle.body_take.specs.Took.{took_of}

-- what the rules say of one operand

module _ (ts : Types) (dead : Bool) where
  pub take-empty : (w : Wanted) → take_all ts dead (w ∷ []) [] ≡ cond dead (allowed (record { taken = unknown ∷ []; left = [] })) (fault bad_operand)
  unfolding take_all
  take-empty w = refl

  pub take_top : (w : Wanted) (o : Operand) (os : List Operand) → take_all ts dead (w ∷ []) (o ∷ os) ≡ operand_test (fit ts o w) (allowed (record { taken = o ∷ []; left = os }))
  unfolding take_all
  take_top w o os = refl

-- each way out

module _ (ts : Types) (dead : Bool) (work : List ℕ) (w base : ℕ) {height : ℕ} where
  module _ (e : height ≡ 0) where
    pub took_unknown : dead ≡ true → took_of work base (Take.TheVariants.Took 0 0) ≡ take_all ts dead (wanted_at_code w ∷ []) (stack work base height)
    unfolding operand_at_code
    took_unknown d = rw (stack-none work base e, stack-none work base {height = 0} refl, take-empty ts dead (wanted_at_code w), d)

    pub took_nothing : dead ≡ false → took_of work base (Take.TheVariants.Fault bad_operand) ≡ take_all ts dead (wanted_at_code w ∷ []) (stack work base height)
    took_nothing d = rw (stack-none work base e, take-empty ts dead (wanted_at_code w), d)

  module _ (n : height ≡ 0 → ⊥) {o : ℕ} (a : Word32At work (operands_from + (base + (height - 1))) o) {r : Fit} (b : r ≡ fit_is (fit ts (operand_at_code o) (wanted_at_code w))) where
    took : take_all ts dead (wanted_at_code w ∷ []) (stack work base height) ≡ operand_test (fit ts (operand_at_code o) (wanted_at_code w)) (took_of work base (Take.TheVariants.Took o (height - 1)))
    took = rw (stack_some work base n, ← a.is, take_top ts dead (wanted_at_code w) (operand_at_code o) (stack work base (height - 1)))

    pub took_top : r ≡ Fit.TheVariants.Fits → took_of work base (Take.TheVariants.Took o (height - 1)) ≡ take_all ts dead (wanted_at_code w ∷ []) (stack work base height)
    took_top e = sym (rw (is_fits (fit ts (operand_at_code o) (wanted_at_code w)) (sym e ∙ b)) at took)

    pub took_null : r ≡ Fit.TheVariants.ButForNull → took_of work base (Take.TheVariants.Fault only_null) ≡ take_all ts dead (wanted_at_code w ∷ []) (stack work base height)
    took_null e = sym (rw (is_but_for_null (fit ts (operand_at_code o) (wanted_at_code w)) (sym e ∙ b)) at took)

    pub took_wrong : r ≡ Fit.TheVariants.Unfit → took_of work base (Take.TheVariants.Fault bad_operand) ≡ take_all ts dead (wanted_at_code w ∷ []) (stack work base height)
    took_wrong e = sym (rw (is_unfit (fit ts (operand_at_code o) (wanted_at_code w)) (sym e ∙ b)) at took)

pub ruleset one_exits = (took_unknown, took_nothing, took_top, took_null, took_wrong)
