-- Each way out of the table. A code that was tested picks its line of the definitions' list, and its kinds; a code that is none of
-- theirs has no line.
use Prim.Native.Nat.{ℕ, ◌≤◌, ◌<◌}
use mathlib.Core.Path.{◌≡◌, refl, ◌∙◌}
use Rattle.std.specs.Prelude.{Err}
use mathlib.Core.Option.{none, some}
use native.Mathlib.Omega.{arith}
use borrow.Author.Tests.{ne_eqb}
use Rattle.scope.specs.Syntax.{Number}
use Rattle.scope.specs.Numeric.{numeric_of}
use Rattle.scope.specs.Arithmetic.{of_one, of_two, deed_of}
use Rattle.run_value.specs.declared.Value.{Value as Carrier}
use Rattle.run_calculated.specs.declared.Uncalculated
use Rattle.run_calculated.specs.Calculations.{Calculation, comes_to, OneIs, TwoIs, CalculatedIs}
use Rattle.run_numeric.specs.Between.{CalculatedBetween, first_float_test, first_result, all_codes}

-- At a code that is written out, its line and its kinds compute: a need that says `unfolding rows` has them by refl.
unfoldable pub rows : ℕ
unfolding deed_of numeric_of
rows = 0

module _ {code : ℕ} {first : Carrier} (second : Carrier) {r : Calculation} (low high : ℕ) {kind j : Number} (k : ℕ) where
  pub by_one : {f : ℕ → ℕ} → code ≡ k → OneIs kind j f first r → deed_of k ≡ some (of_one f) → numeric_of k ≡ some (record { operands = 1; kind = kind; result = j }) → CalculatedBetween low high code first second r
  unfolding comes_to
  by_one e is line kinds = record { is = λ l h. record { is = is.is ∙ rw (e, line, kinds) refl } }

  pub by_two : {f : ℕ → ℕ → ℕ} → code ≡ k → TwoIs kind j f first second r → deed_of k ≡ some (of_two f) → numeric_of k ≡ some (record { operands = 2; kind = kind; result = j }) → CalculatedBetween low high code first second r
  unfolding comes_to
  by_two e is line kinds = record { is = λ l h. record { is = is.is ∙ rw (e, line, kinds) refl } }

pub ruleset table_exits = (by_one, by_two)

-- none of the codes

module _ {code : ℕ} where
  no_line : (code ≡ 0x45 → ⊥) → (code ≡ 0x46 → ⊥) → (code ≡ 0x47 → ⊥) → (code ≡ 0x48 → ⊥) → (code ≡ 0x49 → ⊥) → (code ≡ 0x4A → ⊥) → (code ≡ 0x4B → ⊥) → (code ≡ 0x4C → ⊥) → (code ≡ 0x4D → ⊥) → (code ≡ 0x4E → ⊥) → (code ≡ 0x4F → ⊥) → (code ≡ 0x50 → ⊥) → (code ≡ 0x51 → ⊥) → (code ≡ 0x52 → ⊥) → (code ≡ 0x53 → ⊥) → (code ≡ 0x54 → ⊥) → (code ≡ 0x55 → ⊥) → (code ≡ 0x56 → ⊥) → (code ≡ 0x57 → ⊥) → (code ≡ 0x58 → ⊥) → (code ≡ 0x59 → ⊥) → (code ≡ 0x5A → ⊥) → (code ≡ 0x5B → ⊥) → (code ≡ 0x5C → ⊥) → (code ≡ 0x5D → ⊥) → (code ≡ 0x5E → ⊥) → (code ≡ 0x5F → ⊥) → (code ≡ 0x60 → ⊥) → (code ≡ 0x61 → ⊥) → (code ≡ 0x62 → ⊥) → (code ≡ 0x63 → ⊥) → (code ≡ 0x64 → ⊥) → (code ≡ 0x65 → ⊥) → (code ≡ 0x66 → ⊥) → (code ≡ 0x6A → ⊥) → (code ≡ 0x6B → ⊥) → (code ≡ 0x7C → ⊥) → (code ≡ 0x7D → ⊥) → (code ≡ 0x8C → ⊥) → (code ≡ 0x92 → ⊥) → (code ≡ 0x93 → ⊥) → (code ≡ 0x94 → ⊥) → (code ≡ 0x95 → ⊥) → (code ≡ 0x9A → ⊥) → (code ≡ 0xA0 → ⊥) → (code ≡ 0xA1 → ⊥) → (code ≡ 0xA2 → ⊥) → (code ≡ 0xA3 → ⊥) → deed_of code ≡ none
  unfolding deed_of
  no_line e0 e1 e2 e3 e4 e5 e6 e7 e8 e9 e10 e11 e12 e13 e14 e15 e16 e17 e18 e19 e20 e21 e22 e23 e24 e25 e26 e27 e28 e29 e30 e31 e32 e33 e34 e35 e36 e37 e38 e39 e40 e41 e42 e43 e44 e45 e46 e47 =
      rw (ne_eqb code 0x45 e0, ne_eqb code 0x46 e1, ne_eqb code 0x47 e2, ne_eqb code 0x48 e3, ne_eqb code 0x49 e4, ne_eqb code 0x4A e5, ne_eqb code 0x4B e6, ne_eqb code 0x4C e7, ne_eqb code 0x4D e8, ne_eqb code 0x4E e9, ne_eqb code 0x4F e10, ne_eqb code 0x50 e11, ne_eqb code 0x51 e12, ne_eqb code 0x52 e13, ne_eqb code 0x53 e14, ne_eqb code 0x54 e15, ne_eqb code 0x55 e16, ne_eqb code 0x56 e17, ne_eqb code 0x57 e18, ne_eqb code 0x58 e19, ne_eqb code 0x59 e20, ne_eqb code 0x5A e21, ne_eqb code 0x5B e22, ne_eqb code 0x5C e23, ne_eqb code 0x5D e24, ne_eqb code 0x5E e25, ne_eqb code 0x5F e26, ne_eqb code 0x60 e27, ne_eqb code 0x61 e28, ne_eqb code 0x62 e29, ne_eqb code 0x63 e30, ne_eqb code 0x64 e31, ne_eqb code 0x65 e32, ne_eqb code 0x66 e33, ne_eqb code 0x6A e34, ne_eqb code 0x6B e35, ne_eqb code 0x7C e36, ne_eqb code 0x7D e37, ne_eqb code 0x8C e38, ne_eqb code 0x92 e39, ne_eqb code 0x93 e40, ne_eqb code 0x94 e41, ne_eqb code 0x95 e42, ne_eqb code 0x9A e43, ne_eqb code 0xA0 e44, ne_eqb code 0xA1 e45, ne_eqb code 0xA2 e46, ne_eqb code 0xA3 e47) refl

  no_deed : (first second : Carrier) → deed_of code ≡ none → CalculatedIs code first second (Err Uncalculated.TheVariants.Other)
  unfolding comes_to
  no_deed first second e = record { is = rw e refl }

  module _ (first second : Carrier) where
    pub no_integer_test : (code ≡ 0x45 → ⊥) → (code ≡ 0x46 → ⊥) → (code ≡ 0x47 → ⊥) → (code ≡ 0x48 → ⊥) → (code ≡ 0x49 → ⊥) → (code ≡ 0x4A → ⊥) → (code ≡ 0x4B → ⊥) → (code ≡ 0x4C → ⊥) → (code ≡ 0x4D → ⊥) → (code ≡ 0x4E → ⊥) → (code ≡ 0x4F → ⊥) → (code ≡ 0x50 → ⊥) → (code ≡ 0x51 → ⊥) → (code ≡ 0x52 → ⊥) → (code ≡ 0x53 → ⊥) → (code ≡ 0x54 → ⊥) → (code ≡ 0x55 → ⊥) → (code ≡ 0x56 → ⊥) → (code ≡ 0x57 → ⊥) → (code ≡ 0x58 → ⊥) → (code ≡ 0x59 → ⊥) → (code ≡ 0x5A → ⊥) → CalculatedBetween 0 first_float_test code first second (Err Uncalculated.TheVariants.Other)
    no_integer_test e0 e1 e2 e3 e4 e5 e6 e7 e8 e9 e10 e11 e12 e13 e14 e15 e16 e17 e18 e19 e20 e21 =
        record { is = λ l h. no_deed first second (no_line e0 e1 e2 e3 e4 e5 e6 e7 e8 e9 e10 e11 e12 e13 e14 e15 e16 e17 e18 e19 e20 e21 (λ e. omega arith) (λ e. omega arith) (λ e. omega arith) (λ e. omega arith) (λ e. omega arith) (λ e. omega arith) (λ e. omega arith) (λ e. omega arith) (λ e. omega arith) (λ e. omega arith) (λ e. omega arith) (λ e. omega arith) (λ e. omega arith) (λ e. omega arith) (λ e. omega arith) (λ e. omega arith) (λ e. omega arith) (λ e. omega arith) (λ e. omega arith) (λ e. omega arith) (λ e. omega arith) (λ e. omega arith) (λ e. omega arith) (λ e. omega arith) (λ e. omega arith) (λ e. omega arith)) }

    pub no_float_test : (code ≡ 0x5B → ⊥) → (code ≡ 0x5C → ⊥) → (code ≡ 0x5D → ⊥) → (code ≡ 0x5E → ⊥) → (code ≡ 0x5F → ⊥) → (code ≡ 0x60 → ⊥) → (code ≡ 0x61 → ⊥) → (code ≡ 0x62 → ⊥) → (code ≡ 0x63 → ⊥) → (code ≡ 0x64 → ⊥) → (code ≡ 0x65 → ⊥) → (code ≡ 0x66 → ⊥) → CalculatedBetween first_float_test first_result code first second (Err Uncalculated.TheVariants.Other)
    no_float_test e0 e1 e2 e3 e4 e5 e6 e7 e8 e9 e10 e11 =
        record { is = λ l h. no_deed first second (no_line (λ e. omega arith) (λ e. omega arith) (λ e. omega arith) (λ e. omega arith) (λ e. omega arith) (λ e. omega arith) (λ e. omega arith) (λ e. omega arith) (λ e. omega arith) (λ e. omega arith) (λ e. omega arith) (λ e. omega arith) (λ e. omega arith) (λ e. omega arith) (λ e. omega arith) (λ e. omega arith) (λ e. omega arith) (λ e. omega arith) (λ e. omega arith) (λ e. omega arith) (λ e. omega arith) (λ e. omega arith) e0 e1 e2 e3 e4 e5 e6 e7 e8 e9 e10 e11 (λ e. omega arith) (λ e. omega arith) (λ e. omega arith) (λ e. omega arith) (λ e. omega arith) (λ e. omega arith) (λ e. omega arith) (λ e. omega arith) (λ e. omega arith) (λ e. omega arith) (λ e. omega arith) (λ e. omega arith) (λ e. omega arith) (λ e. omega arith)) }

    pub no_result : (code ≡ 0x6A → ⊥) → (code ≡ 0x6B → ⊥) → (code ≡ 0x7C → ⊥) → (code ≡ 0x7D → ⊥) → (code ≡ 0x8C → ⊥) → (code ≡ 0x92 → ⊥) → (code ≡ 0x93 → ⊥) → (code ≡ 0x94 → ⊥) → (code ≡ 0x95 → ⊥) → (code ≡ 0x9A → ⊥) → (code ≡ 0xA0 → ⊥) → (code ≡ 0xA1 → ⊥) → (code ≡ 0xA2 → ⊥) → (code ≡ 0xA3 → ⊥) → CalculatedBetween first_result all_codes code first second (Err Uncalculated.TheVariants.Other)
    no_result e0 e1 e2 e3 e4 e5 e6 e7 e8 e9 e10 e11 e12 e13 =
        record { is = λ l h. no_deed first second (no_line (λ e. omega arith) (λ e. omega arith) (λ e. omega arith) (λ e. omega arith) (λ e. omega arith) (λ e. omega arith) (λ e. omega arith) (λ e. omega arith) (λ e. omega arith) (λ e. omega arith) (λ e. omega arith) (λ e. omega arith) (λ e. omega arith) (λ e. omega arith) (λ e. omega arith) (λ e. omega arith) (λ e. omega arith) (λ e. omega arith) (λ e. omega arith) (λ e. omega arith) (λ e. omega arith) (λ e. omega arith) (λ e. omega arith) (λ e. omega arith) (λ e. omega arith) (λ e. omega arith) (λ e. omega arith) (λ e. omega arith) (λ e. omega arith) (λ e. omega arith) (λ e. omega arith) (λ e. omega arith) (λ e. omega arith) (λ e. omega arith) e0 e1 e2 e3 e4 e5 e6 e7 e8 e9 e10 e11 e12 e13) }

pub ruleset other_exits = (no_integer_test, no_float_test, no_result)

-- calculated
pub between_is : {low high code : ℕ} {first second : Carrier} {r : Calculation} → CalculatedBetween low high code first second r → low ≤ code → code < high → CalculatedIs code first second r
between_is b l h = b.is l h
