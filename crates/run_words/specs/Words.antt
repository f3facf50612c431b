-- The bits of an operand, if it is an integer of the kind; and the value of some bits.
use Rattle.std.specs.Prelude.{◌≡◌, ℕ, Option as Perhaps, option_map, Result, Ok, Err}
use Rattle.std.proofs.Math.Option.{none, some}
use Rattle.scope.specs.Syntax.{Number}
use Rattle.scope.specs.Machine.{number}
use Rattle.run_value.specs.declared.Value.{Value as Carrier}
use Rattle.run_value.specs.Carried.{decoded}
use Rattle.run_calculated.specs.declared.Uncalculated
use Rattle.run_calculated.specs.declared.Uncalculated.{Uncalculated}
use Rattle.run_calculated.specs.Calculations.{bits_as, perhaps}

pub record WordIs (k : Number) {W : Type 0} (bits : W → ℕ) (v : Carrier) (r : Perhaps W) : Type 0 where
  pub is : bits_as k (decoded v) ≡ perhaps (option_map bits r)

-- and what is wrong otherwise
pub record WordTaken (k : Number) {W : Type 0} (bits : W → ℕ) (v : Carrier) (r : Result W Uncalculated) : Type 0 where
  pub is : (a : W) → r ≡ Ok a → bits_as k (decoded v) ≡ some (bits a)
  pub missing : (e : Uncalculated) → r ≡ Err e → bits_as k (decoded v) ≡ none
  pub wrong : (e : Uncalculated) → r ≡ Err e → e ≡ Uncalculated.TheVariants.Wrong

pub record NumberIs (k : Number) (n : ℕ) (r : Carrier) : Type 0 where
  pub is : decoded r ≡ number k n
