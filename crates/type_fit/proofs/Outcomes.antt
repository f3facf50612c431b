-- What a caller that relies on one outcome learns of the order: "fits" is below, and each of the other two is not.
use mathlib.Core.Path.{◌≡◌, refl, sym, ◌∙◌}
use mathlib.Core.Bool.{Bool, true, false, cond}
use Rattle.scope.specs.Syntax.{Val, Types}
use Rattle.scope.specs.Order.{it_fits, but_for_null, unfit, made_non_null, val_below, val_fit}
use Rattle.scope.specs.Order.{Fit as Outcome}
use Rattle.scope.proofs.Impossible.{impossible}
use Rattle.type_fit.specs.declared.Fit.{Fit}
use Rattle.type_fit.specs.declared.Fit
use Rattle.type_fit.specs.Outcomes.{fit_is}

-- an outcome is told by its own name

pub is_fits : (f : Outcome) → Fit.TheVariants.Fits ≡ fit_is f → f ≡ it_fits
is_fits it_fits e = refl
is_fits but_for_null e = impossible cc
is_fits unfit e = impossible cc

pub is_but_for_null : (f : Outcome) → Fit.TheVariants.ButForNull ≡ fit_is f → f ≡ but_for_null
is_but_for_null it_fits e = impossible cc
is_but_for_null but_for_null e = refl
is_but_for_null unfit e = impossible cc

pub is_unfit : (f : Outcome) → Fit.TheVariants.Unfit ≡ fit_is f → f ≡ unfit
is_unfit it_fits e = impossible cc
is_unfit but_for_null e = impossible cc
is_unfit unfit e = refl

-- of types

module _ (ts : Types) (v w : Val) {r : Fit} (a : r ≡ fit_is (val_fit ts v w)) where
  pub outcome_fits : r ≡ Fit.TheVariants.Fits → true ≡ val_below ts v w
  unfolding val_fit
  outcome_fits e = go (val_below ts v w) (val_below ts (made_non_null v) w) (sym e ∙ a)
    where
      go : (b c : Bool) → Fit.TheVariants.Fits ≡ fit_is (cond b it_fits (cond c but_for_null unfit)) → true ≡ b
      go true c f = refl
      go false true f = impossible cc
      go false false f = impossible cc

  pub outcome_null : r ≡ Fit.TheVariants.ButForNull → false ≡ val_below ts v w
  unfolding val_fit
  outcome_null e = go (val_below ts v w) (val_below ts (made_non_null v) w) (sym e ∙ a)
    where
      go : (b c : Bool) → Fit.TheVariants.ButForNull ≡ fit_is (cond b it_fits (cond c but_for_null unfit)) → false ≡ b
      go true c f = impossible cc
      go false c f = refl

  pub outcome_unfit : r ≡ Fit.TheVariants.Unfit → false ≡ val_below ts v w
  unfolding val_fit
  outcome_unfit e = go (val_below ts v w) (val_below ts (made_non_null v) w) (sym e ∙ a)
    where
      go : (b c : Bool) → Fit.TheVariants.Unfit ≡ fit_is (cond b it_fits (cond c but_for_null unfit)) → false ≡ b
      go true c f = impossible cc
      go false c f = refl

pub ruleset outcomes = (outcome_fits, outcome_null, outcome_unfit)
