-- Every vector holds. The checker computes the definitions.
use Prim.Native.Nat.{◌^◌}
use mathlib.Core.Path.{◌≡◌, refl}
use mathlib.Core.Bool.{true, ◌&&◌}
use Rattle.scope.specs.Lists.{every}
use Rattle.scope.specs.Rounding.{single, double, infinite, units, one}
use Rattle.scope.proofs.Computes.{computes}
use Rattle.facts_floats.specs.Vectors.{case_holds, round_holds, turn_holds, compared_holds, int_case_holds, zero_test_holds, int_order_holds}
use Rattle.facts_floats.specs.SingleVectors.{single_cases, single_rounded, single_turned, single_compared}
use Rattle.facts_floats.specs.DoubleVectors.{double_cases, double_turned, double_compared}
use Rattle.facts_floats.specs.IntegerVectors.{bits32_cases, bits32_ordered, bits64_cases, bits64_ordered, zero_tested}

-- `one` units are the number 1
pub one-counts : (units single 0x3F800000 ≡ one single) × (units double 0x3FF0000000000000 ≡ one double)
unfolding computes
one-counts = (refl, refl)

-- an infinity counts as 2 ^ 128 and as 2 ^ 1024, the power of two after the greatest value; a unit is 2 ^ -149 and 2 ^ -1074
pub infinity-counts : (units single (infinite single) ≡ 2 ^ 277) × (units double (infinite double) ≡ 2 ^ 2098)
unfolding computes
infinity-counts = (refl, refl)

pub singles_hold : (every (case_holds single) single_cases && (every (round_holds single) single_rounded && (every (turn_holds single) single_turned && every (compared_holds single) single_compared))) ≡ true
unfolding computes
singles_hold = refl

pub doubles_hold : (every (case_holds double) double_cases && (every (turn_holds double) double_turned && every (compared_holds double) double_compared)) ≡ true
unfolding computes
doubles_hold = refl

pub integers_hold : (every (int_case_holds 32) bits32_cases && (every (int_order_holds 32) bits32_ordered && (every (int_case_holds 64) bits64_cases && (every (int_order_holds 64) bits64_ordered && every zero_test_holds zero_tested)))) ≡ true
unfolding computes
integers_hold = refl
