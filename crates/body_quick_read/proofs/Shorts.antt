-- Each way out of the short readers.
use Prim.Native.Nat.{ℕ, zero, suc, ◌+◌, ◌-◌, ◌*◌, ◌≤◌, ◌<◌, ◌^◌}
use mathlib.Core.Path.{◌≡◌, refl, sym, ap, ◌∙◌}
use mathlib.Core.Option.{some, none}
use mathlib.Core.List.{List}
use native.Mathlib.Omega.{arith}
use lib.ListN.{get_or, get_elem?, length}
use lib.Dec.{lit≤}
use mir.Syntax.{w64}
use mir.Val.{Fits}
use borrow.Author.Tests.{lt-ltb}
use Rattle.std.specs.Prelude.{Result, Ok}
use Rattle.scope.specs.declared.Refused.{Refused}
use Rattle.scope.specs.Reading.{Read, got, Reader}
use Rattle.scope.specs.Numbers.{bits, bits_at, greatest_length, Whole, plus, minus, signed_of, unsigned, signed, little_endian, float_bytes, u32, s32, s64}
use Rattle.scope.proofs.Forward.{signed-takes, never_back}
use Rattle.number_bytes.proofs.Exits.{element_there}
use Rattle.number_values.specs.declared.Integer.{Integer}
use Rattle.number_values.specs.declared.Integer
use Rattle.number_values.specs.Values.{natural_is, integer_is}
use Rattle.number_values.proofs.Laws.{natural_got, natural_bounds, integer_plus, integer_minus}
use Rattle.number.proofs.Ranges.{byte_range}
use Rattle.body_quick_read.specs.declared.Item.{Item}
use Rattle.body_quick_read.specs.declared.Two.{Two}
use Rattle.body_quick_read.specs.Items.{ByteOr, NumberTold, TwoTold, SizeTold}

-- a byte

pub byte_is_lem : {s : List ℕ} {at : ℕ} → at < length s → get_or s at 0 < 2 ^ 8 → ByteOr s at (get_or s at 0)
byte_is_lem {s} {at} h small = record { is = λ l. element_there s at h; inside = λ l. h; most = omega arith }

pub byte_past : {s : List ℕ} {at : ℕ} → ByteOr s at 256
byte_past = record { is = λ l. absurd (omega arith); inside = λ l. absurd (omega arith); most = omega arith }

-- nothing is told

pub number-not : {s : List ℕ} {at : ℕ} → NumberTold s at (record { value = 0; size = 0 })
number-not = record { is = λ n. absurd (n refl); inside = λ n. absurd (n refl); small = omega arith }

pub size_not : {A : Type 0} {one : Reader A} {s : List ℕ} {at : ℕ} → SizeTold one s at 0
size_not = record { is = λ n. absurd (n refl); inside = λ n. absurd (n refl) }

-- one byte

one_bits : (room : ℕ) (s : List ℕ) (at : ℕ) {b : ℕ} → get_elem? s at ≡ some b → b < 128 → bits_at (suc room) s at ≡ bits b 1 (at + 1)
unfolding bits_at
one_bits room s at {b} e h = rw (e, lt-ltb b 128 h)

module _ {s : List ℕ} {at b : ℕ} (a : ByteOr s at b) (h : b < 128) where
  here : get_elem? s at ≡ some b
  here = a.is (omega arith)

  pub number-one : NumberTold s at (record { value = b; size = 1 })
  unfolding unsigned
  number-one =
      let i = a.inside (omega arith) in
      record { is = λ n. rw (one_bits 4 s at here h, lt-ltb b (2 ^ 32) (omega arith)); inside = λ n. omega arith; small = omega arith }

  -- over the width: one that a byte is within
  size_one : (width room half : ℕ) → greatest_length width ≡ suc room → half ≡ 2 ^ (width - 1) → 2 ^ 6 ≤ half → SizeTold (signed width) s at 1
  unfolding signed
  size_one width room half long is wide =
      let i = a.inside (omega arith) in
      record { is = λ n. (signed_of b 1, rw (long, one_bits room s at here h) (byte_range at half width is wide b (at + 1) (omega arith))); inside = λ n. omega arith }

  pub one_of_32 : SizeTold s32 s at 1
  one_of_32 = size_one 32 4 (2 ^ 31) refl refl (lit≤ tt)

  pub one_of_64 : SizeTold s64 s at 1
  one_of_64 = size_one 64 9 (2 ^ 63) refl refl (lit≤ tt)

-- by the reader

module _ (s : List ℕ) (at : ℕ) {r : Result (ℕ × ℕ) Refused} (a : r ≡ natural_is (u32 s at)) {v next : ℕ} (e : r ≡ Ok (v, next)) where
  pub number-later : at ≤ next
  number-later = let b = (natural_bounds {s = s} {at = at} a e).forward in omega arith

  pub number_long : NumberTold s at (record { value = v; size = next - at })
  number_long =
      let b = natural_bounds {s = s} {at = at} a e in
      let f = b.forward in
      let i = b.inside in
      let back : at + (next - at) ≡ next = omega arith in
      record { is = λ n. natural_got (u32 s at) a e ∙ rw back; inside = λ n. omega arith; small = b.small }

size_of : (width : ℕ) {s : List ℕ} {at next : ℕ} {w : Whole} → signed width s at ≡ got w next → (at ≤ next) × SizeTold (signed width) s at (next - at)
size_of width {s} {at} {next} {w} e =
    let ends = never_back (signed-takes width) s at e in
    let f : at < next = ends.0 in
    let i : next ≤ length s = ends.1 in
    let back : next ≡ at + (next - at) = omega arith in
    (omega arith, record { is = λ n. (w, e ∙ ap (got w) back); inside = λ n. omega arith })

module _ (width : ℕ) (s : List ℕ) (at : ℕ) {r : Integer} (a : r ≡ integer_is (signed width s at)) {v next : ℕ} where
  pub plus_later : r ≡ Integer.TheVariants.Plus v next → at ≤ next
  plus_later e = (size_of width (integer_plus (signed width s at) a e)).0

  pub minus_later : r ≡ Integer.TheVariants.Minus v next → at ≤ next
  minus_later e = (size_of width (integer_minus (signed width s at) a e)).0

  pub size_plus : r ≡ Integer.TheVariants.Plus v next → SizeTold (signed width) s at (next - at)
  size_plus e = (size_of width (integer_plus (signed width s at) a e)).1

  pub size_minus : r ≡ Integer.TheVariants.Minus v next → SizeTold (signed width) s at (next - at)
  size_minus e = (size_of width (integer_minus (signed width s at) a e)).1

-- a float

float_there : (n : ℕ) (s : List ℕ) (at : ℕ) → at + n ≤ length s → (v : ℕ) × (little_endian n s at ≡ some v)
unfolding little_endian
float_there zero s at h = (0, refl)
float_there (suc n) s at h =
    let (v, e) = float_there n s (at + 1) (omega arith) in
    (get_or s at 0 + 256 * v, rw (element_there s at (omega arith), e))

pub size_float : {n : ℕ} {s : List ℕ} {at : ℕ} → n ≤ length s → at ≤ length s - n → SizeTold (float_bytes n) s at n
unfolding float_bytes
size_float {n} {s} {at} h i =
    let (v, e) = float_there n s at (omega arith) in
    record { is = λ m. (v, rw e); inside = λ m. omega arith }

-- two numbers

pub two-not : {s : List ℕ} {at : ℕ} → TwoTold s at (record { first = 0; second = 0; size = 0 })
two-not = record { between = λ n. absurd (n refl); first = λ n. absurd (n refl); second = λ n. absurd (n refl); inside = λ n. absurd (n refl); small = (omega arith, omega arith) }

module _ {s : List ℕ} {at : ℕ} {x : Item} (a : NumberTold s at x) (n : x.size ≡ 0 → ⊥) where
  pub two_next : length s < 2 ^ 64 → Fits w64 (at + x.size)
  two_next l = let i = a.inside n in record { fits = omega arith }

  module _ {y : Item} (b : NumberTold s (at + x.size) y) (m : y.size ≡ 0 → ⊥) where
    pub two_size : length s < 2 ^ 64 → Fits w64 (x.size + y.size)
    two_size l = let i = b.inside m in record { fits = omega arith }

    pub two-told : TwoTold s at (record { first = x.value; second = y.value; size = x.size + y.size })
    two-told =
        let place : at + x.size + y.size ≡ at + (x.size + y.size) = omega arith in
        record { between = λ i. at + x.size; first = λ i. a.is n; second = λ i. b.is m ∙ ap (got y.value) place; inside = λ i. let l = b.inside m in omega arith; small = (a.small, b.small) }

pub ruleset two_exits = (two-not, two_next, two_size, two-told)

pub ruleset short_exits = (byte_is_lem, byte_past, number-not, size_not, number-one, one_of_32, one_of_64, number-later, number_long, plus_later, minus_later, size_plus, size_minus, size_float)
