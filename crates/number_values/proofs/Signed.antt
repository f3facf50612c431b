-- The sign of so many bytes, and the number that they are with it: each way out of `sign_weight`, `signed_of` and `signed_byte` by
-- the test that led there.
use Prim.Native.Nat.{ℕ, suc, ◌-◌, ◌*◌, ◌^◌, ◌≤◌, ◌<◌}
use mathlib.Core.Path.{◌≡◌}
use native.Mathlib.Omega.{arith}
use mir.Syntax.{w64}
use mir.Val.{Fits}
use lib.Dec.{lit≤}
use borrow.Author.Tests.{lt-ltb, le-ltb, le-leb, lt-leb}
use Rattle.scope.specs.Refusals.{bad_number}
use Rattle.scope.specs.Reading.{got}
use Rattle.scope.specs.Numbers.{unless_padded, plus, minus, signed_of, within_signed}
use Rattle.number_values.specs.declared.Integer.{Integer}
use Rattle.number_values.specs.declared.Integer
use Rattle.number_values.specs.Values.{Few, Below, integer_is, SignWeight, range_of}
use Rattle.number_values.proofs.Needed.{few_counts}

-- the sign's weight

-- not the least, so more
not_so : {n k : ℕ} → (k ≡ n → ⊥) → n ≤ k → suc n ≤ k
not_so h p = omega arith

-- a weight that is written out
pub sign_arm : {k n w : ℕ} → k ≡ n → w ≡ 2 ^ (7 * n - 1) → 2 * w ≡ 2 ^ (7 * n) → w ≤ 2 ^ 62 → SignWeight k w
sign_arm e is twice small = rw e (record { is = λ p q. is; twice = λ p q. twice; small = small })

-- and the last, of all counts that are none of the others
pub sign_nine : {k : ℕ} → (k ≡ 1 → ⊥) → (k ≡ 2 → ⊥) → (k ≡ 3 → ⊥) → (k ≡ 4 → ⊥) → (k ≡ 5 → ⊥) → (k ≡ 6 → ⊥) → (k ≡ 7 → ⊥) → (k ≡ 8 → ⊥) → SignWeight k 4611686018427387904
sign_nine {k} a b c d e f g h =
    record { is = λ p q. rw (nine p q); twice = λ p q. rw (nine p q); small = lit≤ tt }
  where
    nine : 1 ≤ k → k ≤ 9 → k ≡ 9
    nine p q = let eight-less : 9 ≤ k = not_so h (not_so g (not_so f (not_so e (not_so d (not_so c (not_so b (not_so a p))))))) in omega arith

-- signed_of

weight_is : {v k w : ℕ} → Few 9 v k → SignWeight k w → w ≡ 2 ^ (7 * k - 1)
weight_is few sign = sign.is few.some few.few

twice_is : {v k w : ℕ} → Few 9 v k → SignWeight k w → 2 * w ≡ 2 ^ (7 * k)
twice_is few sign = sign.twice few.some few.few

module _ (at half n : ℕ) {v k w : ℕ} {r : Integer} (few : Few 9 v k) (sign : SignWeight k w) where
  pub plus_fits : v < w → v < half → r ≡ integer_is (unless_padded at k n within_signed (plus v)) → r ≡ integer_is (range_of at half v k n)
  unfolding range_of
  plus_fits p q e = rw (lt-ltb v (2 ^ (7 * k - 1)) (rw (weight_is few sign) at p), lt-ltb v half q) e

  pub minus_fits : w ≤ v → 2 * w - v ≤ half → r ≡ integer_is (unless_padded at k n within_signed (minus (2 * w - v))) → r ≡ integer_is (range_of at half v k n)
  unfolding range_of
  minus_fits p q e =
      rw (le-ltb v (2 ^ (7 * k - 1)) (rw (weight_is few sign) at p), ← twice_is few sign, le-leb (2 * w - v) half q) e

module _ (at half n : ℕ) {v k w : ℕ} (few : Few 9 v k) (sign : SignWeight k w) where
  pub plus_beyond : v < w → half ≤ v → Integer.TheVariants.Refused bad_number at ≡ integer_is (range_of at half v k n)
  unfolding range_of
  plus_beyond p q = rw (lt-ltb v (2 ^ (7 * k - 1)) (rw (weight_is few sign) at p), le-ltb v half q)

  pub minus_beyond : w ≤ v → half < 2 * w - v → Integer.TheVariants.Refused bad_number at ≡ integer_is (range_of at half v k n)
  unfolding range_of
  minus_beyond p q =
      rw (le-ltb v (2 ^ (7 * k - 1)) (rw (weight_is few sign) at p), ← twice_is few sign, lt-leb (2 * w - v) half q)

-- the bits lie below twice the sign's weight
pub under_twice : {v k w : ℕ} → Few 9 v k → SignWeight k w → v ≤ 2 * w
under_twice {v} {k} {w} few sign =
    let e : 2 * w ≡ 2 ^ (7 * k) = twice_is few sign in let h : v < 2 ^ (7 * k) = few.seven in omega arith

pub twice-fits : {k w : ℕ} → SignWeight k w → Fits w64 (2 * w)
twice-fits sign = let h = sign.small in record { fits = omega arith }

-- a magnitude that is not nothing
pub few_below : {v k w : ℕ} → Few 9 v k → SignWeight k w → Below (2 * w - v) k
few_below {v} {k} {w} few sign =
    let e : 2 * w ≡ 2 ^ (7 * k) = twice_is few sign in
    let h : v < 2 ^ (7 * k) = few.seven in
    record { negative = omega arith; counts = few_counts few }

pub ruleset signed_exits = (plus_fits, plus_beyond, minus_fits, minus_beyond, under_twice, twice-fits, few_counts, few_below)

-- signed_byte

module _ {b n : ℕ} where
  pub byte_plus : b < 2 ^ 6 → Integer.TheVariants.Plus b n ≡ integer_is (got (signed_of b 1) n)
  byte_plus h = rw (lt-ltb b (2 ^ 6) h)

  pub byte_minus : 2 ^ 6 ≤ b → Integer.TheVariants.Minus (2 ^ 7 - b) n ≡ integer_is (got (signed_of b 1) n)
  byte_minus h = rw (le-ltb b (2 ^ 6) h)

pub byte_under : {b : ℕ} → b < 2 ^ 7 → b ≤ 2 ^ 7
byte_under h = omega arith

pub ruleset byte_exits = (byte_plus, byte_minus, byte_under)
