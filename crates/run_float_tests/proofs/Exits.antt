-- Each way out of the comparisons of floats.
use Rattle.std.proofs.Common.{Less, Equal, Greater}
use mathlib.Core.Path.{◌≡◌, refl}
use mathlib.Core.Bool.{Bool, true, false, cond, not, ◌||◌}
use lib.Ieee.{Float, Format, lt, eq, le, ne}
use Rattle.std.specs.Ordering.{float_partial_cmp, partial_le, is_some_and, is_le}
use Rattle.std.specs.Prelude.{Some, None, Ok}
use Rattle.scope.specs.Syntax.{i32}
use Rattle.run_float_bits.specs.Formats.{width_of}
use Rattle.run_value.specs.declared.Value.{Value as Carrier}
use Rattle.run_calculated.specs.declared.Calculated
use Rattle.run_calculated.specs.Calculations.{TruthIs, TwoIs}
use Rattle.run_floats.specs.FloatDeeds.{kind_of}
use Rattle.run_floats.specs.Reals.{RealTaken}
use Rattle.run_floats.proofs.Exits.{no_first, no_second}
use Rattle.run_float_tests.specs.declared.FloatTest.{FloatTest}
use Rattle.run_float_tests.specs.FloatTests.{holds_of, float_test_bits}
use Rattle.run_float_tests.proofs.Bits.{compared}

-- the tests that the language's are written of

pub unequal : (x y : Float) → not (eq x y) ≡ ne x y
unfolding ne
unequal x y = refl

pub at_most : (x y : Float) → partial_le float_partial_cmp x y ≡ le x y
unfolding le
at_most x y = go (lt x y) (eq x y) (lt y x)
  where
    go : (l e g : Bool) → is_some_and is_le (cond l (Some Less) (cond e (Some Equal) (cond g (Some Greater) None))) ≡ (l || e)
    go true e g = refl
    go false true g = refl
    go false false true = refl
    go false false false = refl

pub ruleset tests = (unequal, at_most)

pub compared_is : {X : Type 0} (float : X → Float) (f : Format) (test : FloatTest) {first second : Carrier} {x y : X} {holds : Bool} {r : Carrier} → RealTaken f float first (Ok y) → RealTaken f float second (Ok x) → holds ≡ holds_of test (float x) (float y) → TruthIs holds r → TwoIs (kind_of f) i32 (float_test_bits test (width_of f)) first second (Ok (Calculated.TheVariants.OfTwo r))
compared_is float f test {x = x} {y = y} top under h t = compared f test (top.is y refl) (under.is x refl) h t

pub ruleset exits = (no_first, no_second, compared_is)
