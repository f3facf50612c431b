-- A comparison of what two patterns are read as is the definitions' on the patterns, once over the format.
use Prim.Native.Nat.{ℕ}
use mathlib.Core.Path.{◌≡◌, refl, sym, ap, ap₂, ◌∙◌}
use mathlib.Core.Bool.{Bool, true, false, not, ◌&&◌, ◌||◌, beq}
use mathlib.Core.Option.{some}
use Rattle.std.specs.Prelude.{Ok}
use lib.Dec.{eqb}
use lib.Ieee.{Float, Format, of_bits, le, ne}
use borrow.Author.Tests.{eq-eqb, eqb-true, eqb-false, ne_eqb}
use Rattle.scope.specs.Syntax.{i32}
use Rattle.scope.specs.Rounding.{Width}
use Rattle.scope.specs.Floats.{negative, units_of, is_nan, same_signed, float_equal}
use Rattle.scope.specs.Arithmetic.{as_bits}
use Rattle.run_float_bits.specs.Formats.{width_of}
use Rattle.run_float_bits.proofs.Tied.{less_is, equal_is}
use Rattle.run_value.specs.declared.Value.{Value as Carrier}
use Rattle.run_value.specs.Carried.{decoded}
use Rattle.run_calculated.specs.declared.Calculated
use Rattle.run_calculated.specs.Calculations.{TruthIs, TwoIs}
use Rattle.run_calculated.proofs.Exits.{two_is, tested}
use Rattle.run_floats.specs.FloatDeeds.{kind_of, float_of}
use Rattle.run_floats.proofs.Bits.{bits_of}
use Rattle.run_float_tests.specs.declared.FloatTest
use Rattle.run_float_tests.specs.declared.FloatTest.{FloatTest}
use Rattle.run_float_tests.specs.FloatTests.{holds_of, float_test, float_test_bits}

-- ge asks for equality in the other order than le of the language does

either_way : (a b : Bool) → (a || b) ≡ (b || a)
either_way true true = refl
either_way true false = refl
either_way false true = refl
either_way false false = refl

alike_either_way : (s t : Bool) → beq s t ≡ beq t s
alike_either_way true true = refl
alike_either_way true false = refl
alike_either_way false true = refl
alike_either_way false false = refl

same_either_way : (s : Bool) (m : ℕ) (t : Bool) (n : ℕ) → same_signed s m t n ≡ same_signed t n s m
same_either_way s m t n = go (eqb m n) (eqb-true m n) (eqb-false m n)
  where
    go : (c : Bool) → (c ≡ true → m ≡ n) → (c ≡ false → m ≡ n → ⊥) → (c && (beq s t || eqb m 0)) ≡ same_signed t n s m
    go true h g = rw (h refl, eq-eqb n n refl, alike_either_way s t) refl
    go false h g = rw (ne_eqb n m (λ e. g refl (sym e))) refl

equal_either_way : (w : Width) (a b : ℕ) → float_equal w b a ≡ float_equal w a b
unfolding float_equal
equal_either_way w a b =
    ap₂ (λ (p q : Bool). not p && q) (either_way (is_nan w b) (is_nan w a)) (same_either_way (negative w b) (units_of w b) (negative w a) (units_of w a))

test_is : (f : Format) (test : FloatTest) (a b : ℕ) → holds_of test (of_bits f a) (of_bits f b) ≡ float_test test (width_of f) a b
unfolding ne le
test_is f FloatTest.TheVariants.Equal a b = equal_is f a b
test_is f FloatTest.TheVariants.Unequal a b = ap not (equal_is f a b)
test_is f FloatTest.TheVariants.Less a b = less_is f a b
test_is f FloatTest.TheVariants.Greater a b = less_is f b a
test_is f FloatTest.TheVariants.AtMost a b = ap₂ ◌||◌ (less_is f a b) (equal_is f a b)
test_is f FloatTest.TheVariants.AtLeast a b = ap₂ ◌||◌ (less_is f b a) (equal_is f b a ∙ equal_either_way (width_of f) a b)

pub compared : (f : Format) (test : FloatTest) {first second : Carrier} {x y : Float} {holds : Bool} {r : Carrier} → float_of f (decoded first) ≡ some y → float_of f (decoded second) ≡ some x → holds ≡ holds_of test x y → TruthIs holds r → TwoIs (kind_of f) i32 (float_test_bits test (width_of f)) first second (Ok (Calculated.TheVariants.OfTwo r))
compared f test {first} {second} {x} {y} {holds} e g h t =
    let top = bits_of f first e in
    let below = bits_of f second g in
    let result : holds ≡ float_test test (width_of f) below.bits top.bits = h ∙ ap₂ (holds_of test) (sym below.read) (sym top.read) ∙ test_is f test below.bits top.bits in
    two_is (kind_of f) i32 (float_test_bits test (width_of f)) top.are below.are (tested t (ap as_bits result))
