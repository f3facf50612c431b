-- The way out of an instruction on one word, where the operand is of another kind.
use Prim.Native.Nat.{ℕ}
use mathlib.Core.Path.{◌≡◌, refl}
use Rattle.std.specs.Prelude.{Ok, Err, IsErr, IsErrAnd}
use Rattle.scope.specs.Syntax.{Number}
use Rattle.run_value.specs.declared.Value.{Value as Carrier}
use Rattle.run_calculated.specs.declared.Uncalculated.{Uncalculated}
use Rattle.run_calculated.specs.Calculations.{Calculation, OneIs}
use Rattle.run_calculated.proofs.Exits.{one_wrong}
use Rattle.run_words.specs.Words.{WordTaken}

module _ {W : Type 0} (bits : W → ℕ) {k : Number} {v : Carrier} {e : Uncalculated} (not : WordTaken k bits v (Err e)) (j : Number) where
  pub no_one : (f : ℕ → ℕ) {q : Calculation} → IsErr q × IsErrAnd q (λ x. x ≡ e) → OneIs k j f v q
  no_one f {q = Ok a} (b, n) = absurd n
  no_one f {q = Err x} (b, is) = rw (is, not.wrong e refl) (one_wrong k j f (not.missing e refl))
