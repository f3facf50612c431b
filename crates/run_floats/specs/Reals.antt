-- An operand as the language's float, if it is a float of the format; and the value of some bits.
use Rattle.std.specs.Prelude.{◌≡◌, ℕ, Float, Option as Perhaps, option_map, Result, Ok, Err}
use Rattle.std.proofs.Math.Option.{none, some}
use Rattle.std.specs.Float.{Format}
use Rattle.scope.specs.Machine.{number}
use Rattle.run_values.specs.Values.{within}
use Rattle.run_value.specs.declared.Value.{Value as Carrier}
use Rattle.run_value.specs.Carried.{decoded}
use Rattle.run_calculated.specs.declared.Uncalculated
use Rattle.run_calculated.specs.declared.Uncalculated.{Uncalculated}
use Rattle.run_calculated.specs.Calculations.{perhaps}
use Rattle.run_floats.specs.FloatDeeds.{kind_of, float_of}

pub record RealIs (f : Format) {X : Type 0} (float : X → Float) (v : Carrier) (r : Perhaps X) : Type 0 where
  pub is : float_of f (decoded v) ≡ perhaps (option_map float r)

-- and what is wrong otherwise
pub record RealTaken (f : Format) {X : Type 0} (float : X → Float) (v : Carrier) (r : Result X Uncalculated) : Type 0 where
  pub is : (x : X) → r ≡ Ok x → float_of f (decoded v) ≡ some (float x)
  pub missing : (e : Uncalculated) → r ≡ Err e → float_of f (decoded v) ≡ none
  pub wrong : (e : Uncalculated) → r ≡ Err e → e ≡ Uncalculated.TheVariants.Wrong

pub record CarriedIs (f : Format) (b : ℕ) (r : Carrier) : Type 0 where
  pub is : decoded r ≡ number (kind_of f) (within (kind_of f) b)
