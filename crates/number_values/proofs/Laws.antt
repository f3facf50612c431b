-- What a caller learns from a number that was read: what the definition read, and the bounds of a number that was read.
use Prim.Native.Nat.{ℕ, ◌-◌, ◌*◌, ◌^◌, ◌≤◌, ◌<◌}
use mathlib.Core.Path.{◌≡◌, refl}
use mathlib.Core.Bool.{Bool, true, false, cond, ◌&&◌}
use mathlib.Core.List.{List}
use lib.ListN.{length}
use lib.Dec.{ltb}
use borrow.Author.Tests.{ltb-true}
use Rattle.std.specs.Prelude.{Result, Ok, Err}
use Rattle.scope.specs.declared.Refused.{Refused}
use Rattle.scope.specs.Refusals.{bad_number, padded}
use Rattle.scope.specs.Reading.{Read, got, refused}
use Rattle.scope.specs.Numbers.{Bits, bits, cut, long, bits_at, greatest_length, in_range, within_unsigned, Whole, plus, minus, unsigned, signed, u32, s33}
use Rattle.scope.proofs.WholeNumbers.{Within, above_zero, below-zero, signed-within}
use Rattle.scope.proofs.Forward.{unsigned-takes, signed-takes, never_back}
use Rattle.scope.proofs.Impossible.{impossible}
use Rattle.scope.proofs.Told.{read_got, read_refused}
use Rattle.number_values.specs.declared.Integer.{Integer}
use Rattle.number_values.specs.declared.Integer
use Rattle.number_values.specs.Values.{natural_is, integer_is}

-- answers, taken apart

pub natural_got : (o : Read ℕ) {r : Result (ℕ × ℕ) Refused} {v next : ℕ} → r ≡ natural_is o → r ≡ Ok (v, next) → o ≡ got v next
natural_got (got u m) p q = read_got p q
natural_got (refused n m) p q = impossible cc

pub natural_refused : (o : Read ℕ) {r : Result (ℕ × ℕ) Refused} {no : Refused} → r ≡ natural_is o → r ≡ Err no → o ≡ refused no.number no.at
natural_refused (got u m) p q = impossible cc
natural_refused (refused m k) p q = read_refused p q

pub integer_plus : (o : Read Whole) {r : Integer} {v next : ℕ} → r ≡ integer_is o → r ≡ Integer.TheVariants.Plus v next → o ≡ got (plus v) next
integer_plus (got (plus u) m) p q = cc
integer_plus (got (minus u) m) p q = impossible cc
integer_plus (refused n m) p q = impossible cc

pub integer_minus : (o : Read Whole) {r : Integer} {v next : ℕ} → r ≡ integer_is o → r ≡ Integer.TheVariants.Minus v next → o ≡ got (minus v) next
integer_minus (got (plus u) m) p q = impossible cc
integer_minus (got (minus u) m) p q = cc
integer_minus (refused n m) p q = impossible cc

pub integer_refused : (o : Read Whole) {r : Integer} {n place : ℕ} → r ≡ integer_is o → r ≡ Integer.TheVariants.Refused n place → o ≡ refused n place
integer_refused (got (plus u) m) p q = impossible cc
integer_refused (got (minus u) m) p q = impossible cc
integer_refused (refused m k) p q = cc

-- what was read is in the range of its width

range_kept : (width at : ℕ) (r : Bits) {x next : ℕ} → in_range width at r (λ u k. u) within_unsigned ≡ got x next → x < 2 ^ width
range_kept width at cut e = impossible cc
range_kept width at long e = impossible cc
range_kept width at (bits v k n) {x} {next} e = go (ltb v (2 ^ width)) refl (ltb 1 k && ltb v (2 ^ (7 * (k - 1)))) e
  where
    go : (t : Bool) → ltb v (2 ^ width) ≡ t → (spare : Bool) → cond t (cond spare (refused padded at) (got v n)) (refused bad_number at) ≡ got x next → x < 2 ^ width
    go true p true q = impossible cc
    go true p false q = let same : v ≡ x = cc in rw same at (ltb-true v (2 ^ width) p)
    go false p spare q = impossible cc

pub unsigned_small : (width : ℕ) (s : List ℕ) (at : ℕ) {v next : ℕ} → unsigned width s at ≡ got v next → v < 2 ^ width
unfolding unsigned
unsigned_small width s at e = range_kept width at (bits_at (greatest_length width) s at) e

module _ (width : ℕ) (s : List ℕ) (at : ℕ) {v next : ℕ} where
  pub signed-small : signed width s at ≡ got (plus v) next → v < 2 ^ (width - 1)
  signed-small e = go ((signed-within s width at).tells (plus v) next e)
    where
      go : Within width (plus v) → v < 2 ^ (width - 1)
      go (above_zero h) = h

  pub signed_least : signed width s at ≡ got (minus v) next → v ≤ 2 ^ (width - 1)
  signed_least e = go ((signed-within s width at).tells (minus v) next e)
    where
      go : Within width (minus v) → v ≤ 2 ^ (width - 1)
      go (below-zero some h) = h

  pub signed_more : signed width s at ≡ got (minus v) next → 0 < v
  signed_more e = go ((signed-within s width at).tells (minus v) next e)
    where
      go : Within width (minus v) → 0 < v
      go (below-zero some h) = some

-- a number read by `u32_at`, and a type number read by `s33_at`

pub record Number (s : List ℕ) (at v next : ℕ) : Type 0 where
  pub small : v < 2 ^ 32
  pub forward : at < next
  pub inside : next ≤ length s

pub natural_bounds : {s : List ℕ} {at v next : ℕ} {r : Result (ℕ × ℕ) Refused} → r ≡ natural_is (u32 s at) → r ≡ Ok (v, next) → Number s at v next
natural_bounds {s} {at} p q =
    let e = natural_got (u32 s at) p q in
    let ends = never_back (unsigned-takes 32) s at e in
    record { small = unsigned_small 32 s at e; forward = ends.0; inside = ends.1 }

pub type-number_bounds : {s : List ℕ} {at v next : ℕ} {r : Integer} → r ≡ integer_is (s33 s at) → r ≡ Integer.TheVariants.Plus v next → Number s at v next
type-number_bounds {s} {at} p q =
    let e = integer_plus (s33 s at) p q in
    let ends = never_back (signed-takes 33) s at e in
    record { small = signed-small 33 s at e; forward = ends.0; inside = ends.1 }
