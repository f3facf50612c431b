-- A byte to spare, as the code asks for it: by the sign's weight of one byte less. A natural number has no sign, so half of it is
-- held against that weight; of a number below zero, one less than its magnitude. Laws of `spare`, `natural_of`, `plus_of` and
-- `minus_of`.
use Prim.Native.Nat.{ℕ, ◌+◌, ◌-◌, ◌*◌, ◌^◌, ◌/◌, ◌≤◌, ◌<◌}
use mathlib.Core.Path.{◌≡◌, refl, sym, ap, ◌∙◌}
use mathlib.Core.Bool.{Bool, true, false, ◌&&◌}
use native.Mathlib.Omega.{arith}
use lib.Dec.{ltb, leb}
use lib.Pow.{pow-add}
use borrow.Author.Tests.{lt-ltb, le-ltb, le-leb, lt-leb, ltb-true, ltb-false}
use Rattle.scope.specs.Told.{no_at}
use Rattle.std.specs.Prelude.{Ok, Err}
use Rattle.scope.specs.Refusals.{bad_number, padded}
use Rattle.scope.specs.Numbers.{unless_padded, within_unsigned, plus, minus, within_signed}
use Rattle.number_values.specs.declared.Integer.{Integer}
use Rattle.number_values.specs.declared.Integer
use Rattle.number_values.specs.Values.{Few, Counts, Below, SignWeight, has_spare, natural_is, natural_of, integer_is}

-- spare

module _ (n : ℕ) {k : ℕ} where
  pub spare_one : k ≡ 1 → false ≡ has_spare n k
  spare_one e = rw e

  pub spare_more : {w : ℕ} → Counts k → (k ≡ 1 → ⊥) → SignWeight (k - 1) w → ltb n w ≡ has_spare n k
  spare_more c other sign =
      let a = c.some in
      let b = c.few in
      rw (lt-ltb 1 k (omega arith), sign.is (omega arith) (omega arith))

pub one_less : {k : ℕ} → Counts k → 1 ≤ k
one_less c = c.some

pub ruleset spare_exits = (spare_one, spare_more, one_less)

-- half of a number lies below half of a bound exactly where the number lies below the bound

half-below : (v m : ℕ) → ltb (v / 2) m ≡ ltb v (2 * m)
half-below v m = go (ltb v (2 * m)) refl
  where
    go : (t : Bool) → ltb v (2 * m) ≡ t → ltb (v / 2) m ≡ t
    go true e = let h = ltb-true v (2 * m) e in lt-ltb (v / 2) m (omega arith)
    go false e = let h = ltb-false v (2 * m) e in le-ltb (v / 2) m (omega arith)

twice : (k : ℕ) → 1 < k → 2 * 2 ^ (7 * (k - 1) - 1) ≡ 2 ^ (7 * (k - 1))
twice k h = sym (pow-add 2 1 (7 * (k - 1) - 1)) ∙ ap (λ (n : ℕ). 2 ^ n) (let e : 1 + (7 * (k - 1) - 1) ≡ 7 * (k - 1) = omega arith in e)

natural_spare : (v k : ℕ) → has_spare (v / 2) k ≡ (ltb 1 k && within_unsigned (7 * (k - 1)) v)
natural_spare v k = go (ltb 1 k) refl
  where
    go : (t : Bool) → ltb 1 k ≡ t → (t && ltb (v / 2) (2 ^ (7 * (k - 1) - 1))) ≡ (t && ltb v (2 ^ (7 * (k - 1))))
    go true e = half-below v (2 ^ (7 * (k - 1) - 1)) ∙ ap (ltb v) (twice k (ltb-true 1 k e))
    go false e = refl

-- as many numbers lie below zero as from zero on: the first is -1

one_fewer : (v m : ℕ) → 1 ≤ v → ltb (v - 1) m ≡ leb v m
one_fewer v m h = go (ltb (v - 1) m) refl
  where
    go : (t : Bool) → ltb (v - 1) m ≡ t → t ≡ leb v m
    go true e = let l = ltb-true (v - 1) m e in sym (le-leb v m (omega arith))
    go false e = let l = ltb-false (v - 1) m e in sym (lt-leb v m (omega arith))

minus_spare : (v k : ℕ) → 1 ≤ v → has_spare (v - 1) k ≡ (ltb 1 k && within_signed (7 * (k - 1)) (minus v))
minus_spare v k h = ap (λ (b : Bool). ltb 1 k && b) (one_fewer v (2 ^ (7 * (k - 1) - 1)) h)

-- natural_of

module _ (at v k n : ℕ) where
  pub natural_beyond : 2 ^ 32 ≤ v → Err (no_at bad_number at) ≡ natural_is (natural_of at v k n)
  unfolding natural_of
  natural_beyond h = rw (le-ltb v (2 ^ 32) h)

  module _ (h : v < 2 ^ 32) {t : Bool} (e : t ≡ has_spare (v / 2) k) where
    pub natural_padded : t ≡ true → Err (no_at padded at) ≡ natural_is (natural_of at v k n)
    unfolding natural_of
    natural_padded q = rw (lt-ltb v (2 ^ 32) h, ← natural_spare v k, ← e, q)

    pub natural_fits : t ≡ false → Ok (v, n) ≡ natural_is (natural_of at v k n)
    unfolding natural_of
    natural_fits q = rw (lt-ltb v (2 ^ 32) h, ← natural_spare v k, ← e, q)

pub few_counts : {v k : ℕ} → Few 9 v k → Counts k
few_counts few = let h = few.few in record { some = few.some; few = omega arith }

-- plus_of, minus_of

module _ (at v k n : ℕ) {t : Bool} where
  module _ (e : t ≡ has_spare v k) where
    pub plus_padded : t ≡ true → Integer.TheVariants.Refused padded at ≡ integer_is (unless_padded at k n within_signed (plus v))
    plus_padded q = rw (← e, q)

    pub plus_needed : t ≡ false → Integer.TheVariants.Plus v n ≡ integer_is (unless_padded at k n within_signed (plus v))
    plus_needed q = rw (← e, q)

  module _ (b : Below v k) (e : t ≡ has_spare (v - 1) k) where
    pub minus_padded : t ≡ true → Integer.TheVariants.Refused padded at ≡ integer_is (unless_padded at k n within_signed (minus v))
    minus_padded q = rw (← minus_spare v k b.negative, ← e, q)

    pub minus_needed : t ≡ false → Integer.TheVariants.Minus v n ≡ integer_is (unless_padded at k n within_signed (minus v))
    minus_needed q = rw (← minus_spare v k b.negative, ← e, q)

pub below-counts : {v k : ℕ} → Below v k → Counts k
below-counts b = b.counts

pub below_one : {v k : ℕ} → Below v k → 1 ≤ v
below_one b = b.negative

pub ruleset below_bounds = (below-counts, below_one)
