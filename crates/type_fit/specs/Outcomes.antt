-- The three outcomes of a type's test (scope's Order.antt), as the code tells them.
use Rattle.scope.specs.Order.{it_fits, but_for_null, unfit}
use Rattle.scope.specs.Order.{Fit as Outcome}
use Rattle.type_fit.specs.declared.Fit.{Fit}
use Rattle.type_fit.specs.declared.Fit

abbrev pub fit_is : Outcome → Fit
fit_is it_fits = Fit.TheVariants.Fits
fit_is but_for_null = Fit.TheVariants.ButForNull
fit_is unfit = Fit.TheVariants.Unfit
