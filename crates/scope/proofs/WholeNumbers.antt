-- Whatever whole number is read is in the range of its width, and one below zero is not minus 0: a number of k bytes of seven bits is
-- below 2 ^ (7 k), of any list.
use Prim.Native.Nat.{ℕ, zero, suc, ◌+◌, ◌-◌, ◌*◌, ◌^◌, ◌%◌, ◌<◌, ◌≤◌}
use native.Mathlib.Omega.{arith}
use native.Mathlib.Nat.{mod-lt}
use lib.Pow.{pow-add}
use mathlib.Core.Path.{◌≡◌, refl, ap, ◌∙◌}
use mathlib.Core.Bool.{Bool, true, false, cond, ◌&&◌}
use mathlib.Core.Option.{Option, none, some}
use mathlib.Core.List.{List}
use lib.ListN.{get_elem?}
use lib.Dec.{ltb, lit<}
use borrow.Author.Tests.{ltb-true, leb-true}
use Rattle.scope.specs.Reading.{got, refused, given}
use Rattle.scope.specs.Refusals.{bad_number, padded}
use Rattle.scope.specs.Numbers.{Bits, bits, cut, long, under, bits_at, greatest_length, unless_padded, in_range, Whole, plus, minus, signed_of, within_signed, signed}
use Rattle.scope.proofs.Telling.{Gives, gives_this, gives_nothing}

-- the bits of k bytes lie below 2 ^ (7 k)
data Small : Bits → Type 0 where
  is_small : {v k next : ℕ} → v < 2 ^ (7 * k) → Small (bits v k next)
  is_cut : Small cut
  is_long : Small long

small-under : (b : ℕ) {r : Bits} → Small r → Small (under b r)
small-under b (is_small {v = v} {k = k} l) =
    let seven : 2 ^ (7 * (k + 1)) ≡ 2 ^ (7 * k) * 2 ^ 7 = ap (λ (n : ℕ). 2 ^ n) (let e : 7 * (k + 1) ≡ 7 * k + 7 = omega arith in e) ∙ pow-add 2 (7 * k) 7 in
    is_small {v = b % 128 + 128 * v} {k = k + 1} (rw seven (below (2 ^ (7 * k)) l))
  where
    below : (w : ℕ) → v < w → b % 128 + 128 * v < w * 128
    below w l = let low : b % 128 < 128 = mod-lt b (lit< tt) in omega arith
small-under b is_cut = is_cut
small-under b is_long = is_long

module _ (s : List ℕ) where
  small-first : (at : ℕ) {more : ℕ → Bits} → ((b : ℕ) → Small (more b)) → Small (given (get_elem? s at) cut (λ b. cond (ltb b 128) (bits b 1 (at + 1)) (more b)))
  small-first at {more} k = go (get_elem? s at)
    where
      test : (b : ℕ) (t : Bool) → ltb b 128 ≡ t → Small (more b) → Small (cond t (bits b 1 (at + 1)) (more b))
      test b true e later = is_small (ltb-true b 128 e)
      test b false e later = later

      go : (o : Option ℕ) → Small (given o cut (λ b. cond (ltb b 128) (bits b 1 (at + 1)) (more b)))
      go none = is_cut
      go (some b) = test b (ltb b 128) refl (k b)

  bits_small : (room at : ℕ) → Small (bits_at room s at)
  unfolding bits_at
  bits_small zero at = is_long
  bits_small (suc room) at = small-first at (λ b. small-under b (bits_small room (at + 1)))

-- a whole number that is in range, and is not minus 0
pub data Within (width : ℕ) : Whole → Type 0 where
  above_zero : {v : ℕ} → v < 2 ^ (width - 1) → Within width (plus v)
  below-zero : {v : ℕ} → 0 < v → v ≤ 2 ^ (width - 1) → Within width (minus v)

range_within : (width at : ℕ) {r : Bits} → Small r → Gives (Within width) (in_range width at r signed_of within_signed)
range_within width at is_cut = gives_nothing
range_within width at is_long = gives_nothing
range_within width at (is_small {v = v} {k = k} {next = next} h) = go (ltb v (2 ^ (7 * k - 1))) refl
  where
    ranged : (t spare : Bool) (w : Whole) → (t ≡ true → Within width w) → Gives (Within width) (cond t (cond spare (refused padded at) (got w next)) (refused bad_number at))
    ranged true true w k = gives_nothing
    ranged true false w k = gives_this (k refl)
    ranged false spare w k = gives_nothing

    positive : (u w : ℕ) → u < w → 0 < w - u
    positive u w h = omega arith

    go : (t : Bool) → ltb v (2 ^ (7 * k - 1)) ≡ t
        → Gives (Within width) (let w = cond t (plus v) (minus (2 ^ (7 * k) - v)) in cond (within_signed width w) (unless_padded at k next within_signed w) (refused bad_number at))
    go true e = ranged (within_signed width (plus v)) (ltb 1 k && within_signed (7 * (k - 1)) (plus v)) (plus v) (λ f. above_zero (ltb-true v _ f))
    go false e =
        let lacks = minus (2 ^ (7 * k) - v) in
        ranged (within_signed width lacks) (ltb 1 k && within_signed (7 * (k - 1)) lacks) lacks (λ f. below-zero (positive v (2 ^ (7 * k)) h) (leb-true _ _ f))

pub signed-within : (s : List ℕ) (width at : ℕ) → Gives (Within width) (signed width s at)
unfolding signed
signed-within s width at = range_within width at (bits_small s (greatest_length width) at)
