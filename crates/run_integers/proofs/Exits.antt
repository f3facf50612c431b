-- Each way out of an instruction, over the kind and the width.
use Prim.Native.Nat.{ℕ}
use mathlib.Core.Path.{◌≡◌, refl, ap, ◌∙◌}
use mathlib.Core.Bool.{Bool}
use lib.Dec.{eqb}
use Rattle.std.specs.Prelude.{Ok, Err, IsErr, IsErrAnd}
use Rattle.scope.specs.Syntax.{Number, i32}
use Rattle.scope.specs.Arithmetic.{as_bits}
use Rattle.scope.specs.Machine.{number}
use Rattle.run_value.specs.declared.Value.{Value as Carrier}
use Rattle.run_calculated.specs.declared.Calculated
use Rattle.run_calculated.specs.declared.Uncalculated.{Uncalculated}
use Rattle.run_calculated.specs.Calculations.{Calculation, TruthIs, OneIs, TwoIs}
use Rattle.run_calculated.proofs.Exits.{one_is, two_is, first_wrong, second_wrong, tested}
use Rattle.run_words.specs.Words.{WordTaken, NumberIs}
use Rattle.run_words.proofs.Exits.{no_one}
use Rattle.run_integers.specs.declared.IntegerTest.{IntegerTest}
use Rattle.run_integers.specs.IntegerTests.{test_of, test_bits, zero_bits}

-- an operand of another kind

module _ {W : Type 0} (bits : W → ℕ) {k : Number} {v : Carrier} {e : Uncalculated} (not : WordTaken k bits v (Err e)) (j : Number) where
  pub no_first : (f : ℕ → ℕ → ℕ) {second : Carrier} {q : Calculation} → IsErr q × IsErrAnd q (λ x. x ≡ e) → TwoIs k j f v second q
  no_first f {second} {q = Ok a} (b, n) = absurd n
  no_first f {second} {q = Err x} (b, is) = rw (is, not.wrong e refl) (first_wrong k j f (not.missing e refl))

  pub no_second : (f : ℕ → ℕ → ℕ) {first : Carrier} {b : W} {q : Calculation} → WordTaken k bits first (Ok b) → IsErr q × IsErrAnd q (λ x. x ≡ e) → TwoIs k j f first v q
  no_second f {first} {b} {q = Ok a} there (c, n) = absurd n
  no_second f {first} {b} {q = Err x} there (c, is) = rw (is, not.wrong e refl) (second_wrong k j f (there.is b refl) (not.missing e refl))

-- of the kind

module _ {W : Type 0} (bits : W → ℕ) (k : Number) {first : Carrier} {b : W} (top : WordTaken k bits first (Ok b)) where
  pub zero : {r : Carrier} → TruthIs (eqb (bits b) 0) r → OneIs k i32 zero_bits first (Ok (Calculated.TheVariants.OfOne r))
  zero t = one_is k i32 zero_bits (top.is b refl) (tested t refl)

  module _ {second : Carrier} {a : W} (under : WordTaken k bits second (Ok a)) where
    pub compared : (test : IntegerTest) (n : ℕ) {holds : Bool} {r : Carrier} → holds ≡ test_of test n (bits a) (bits b) → TruthIs holds r → TwoIs k i32 (test_bits test n) first second (Ok (Calculated.TheVariants.OfTwo r))
    compared test n h t = two_is k i32 (test_bits test n) (top.is b refl) (under.is a refl) (tested t (ap as_bits h))

    pub calculated : (f : ℕ → ℕ → ℕ) {n : ℕ} {r : Carrier} → n ≡ f (bits a) (bits b) → NumberIs k n r → TwoIs k k f first second (Ok (Calculated.TheVariants.OfTwo r))
    calculated f e is = two_is k k f (top.is b refl) (under.is a refl) (is.is ∙ ap (number k) e)

pub ruleset exits = (no_one, no_first, no_second, zero, compared, calculated)
