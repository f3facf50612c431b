-- The ways out that every calculation has: its operands are of the kind, or they are not.
use Prim.Native.Nat.{ℕ}
use mathlib.Core.Path.{◌≡◌, refl, ap, ◌∙◌}
use mathlib.Core.Bool.{Bool}
use Rattle.std.specs.Prelude.{Ok, Err}
use mathlib.Core.Option.{none, some}
use Rattle.scope.specs.Syntax.{Number, i32}
use Rattle.scope.specs.Arithmetic.{as_bits}
use Rattle.scope.specs.Machine.{number}
use Rattle.run_value.specs.declared.Value.{Value as Carrier}
use Rattle.run_value.specs.Carried.{decoded}
use Rattle.run_calculated.specs.declared.Calculated
use Rattle.run_calculated.specs.declared.Uncalculated
use Rattle.run_calculated.specs.Calculations.{one_gives, two_give, bits_as, by_one, by_two, TruthIs, OneIs, TwoIs}

-- calculations, over the kinds and the operation

module _ (k j : Number) {first : Carrier} where
  pub one_is : (f : ℕ → ℕ) {a : ℕ} {r : Carrier} → bits_as k (decoded first) ≡ some a → decoded r ≡ number j (f a) → OneIs k j f first (Ok (Calculated.TheVariants.OfOne r))
  unfolding by_one
  one_is f e is = record { is = rw e (ap one_gives is) }

  pub one_wrong : (f : ℕ → ℕ) → bits_as k (decoded first) ≡ none → OneIs k j f first (Err Uncalculated.TheVariants.Wrong)
  unfolding by_one
  one_wrong f e = record { is = rw e refl }

  module _ {second : Carrier} (f : ℕ → ℕ → ℕ) where
    pub two_is : {a b : ℕ} {r : Carrier} → bits_as k (decoded first) ≡ some b → bits_as k (decoded second) ≡ some a → decoded r ≡ number j (f a b) → TwoIs k j f first second (Ok (Calculated.TheVariants.OfTwo r))
    unfolding by_two
    two_is e g is = record { is = rw (e, g) (ap two_give is) }

    pub first_wrong : bits_as k (decoded first) ≡ none → TwoIs k j f first second (Err Uncalculated.TheVariants.Wrong)
    unfolding by_two
    first_wrong e = record { is = rw e refl }

    pub second_wrong : {b : ℕ} → bits_as k (decoded first) ≡ some b → bits_as k (decoded second) ≡ none → TwoIs k j f first second (Err Uncalculated.TheVariants.Wrong)
    unfolding by_two
    second_wrong e g = record { is = rw (e, g) refl }

-- a test
pub tested : {b : Bool} {r : Carrier} {n : ℕ} → TruthIs b r → as_bits b ≡ n → decoded r ≡ number i32 n
tested t e = t.is ∙ ap (number i32) e
