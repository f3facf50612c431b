-- From the bits of a number to its value and range: what `u32_at`, `s32_at` and `s33_at` answer is what the definitions
-- `unsigned` and `signed` say, each way out by the test that led there. One law over the width.
use Prim.Native.Nat.{ℕ, ◌-◌, ◌^◌, ◌≤◌, ◌<◌}
use mathlib.Core.Path.{◌≡◌, refl, sym, ap, ◌∙◌}
use mathlib.Core.Bool.{Bool, true, false, cond}
use mathlib.Core.List.{List}
use native.Mathlib.Omega.{arith}
use lib.Dec.{ltb, lit≤}
use borrow.Author.Tests.{ltb-true, ltb-false, lt-ltb, le-leb}
use Rattle.scope.specs.Told.{no_at}
use Rattle.std.specs.Prelude.{Result, Ok, Err}
use Rattle.scope.specs.declared.Refused.{Refused}
use Rattle.scope.specs.Refusals.{bytes_end, bad_number}
use Rattle.scope.specs.Reading.{got}
use Rattle.scope.specs.Numbers.{Bits, bits, bits_at, greatest_length, in_range, Whole, plus, minus, signed_of, within_signed, unsigned, signed, u32, s32, s33}
use Rattle.number_bits.specs.declared.Leb.{Leb}
use Rattle.number_bits.specs.declared.Leb
use Rattle.number_values.specs.declared.Integer.{Integer}
use Rattle.number_values.specs.declared.Integer
use Rattle.number_bits.specs.Bits.{MostBytes, BitsRead}
use Rattle.number_values.specs.Values.{Few, natural_is, integer_is, natural_of, in_half, range_of}
use Rattle.number.specs.Widths.{SignedRead}

-- u32_at

natural_is_lem : (s : List ℕ) (at : ℕ) {v k n : ℕ} → bits_at 5 s at ≡ bits v k n → u32 s at ≡ natural_of at v k n
unfolding unsigned natural_of
natural_is_lem s at e = rw e

module _ {s : List ℕ} {at : ℕ} {r : Leb} (a : BitsRead 5 s at r) where
  pub natural_byte : {v n : ℕ} → r ≡ Leb.TheVariants.One v n → Ok (v, n) ≡ natural_is (u32 s at)
  unfolding unsigned
  natural_byte {v} {n} e = let low = (a.one v n e).0 in rw ((a.one v n e).1 0, lt-ltb v (2 ^ 32) (omega arith))

  pub natural_got : {v k n : ℕ} {q : Result (ℕ × ℕ) Refused} → r ≡ Leb.TheVariants.Bits v k n → q ≡ natural_is (natural_of at v k n) → q ≡ natural_is (u32 s at)
  natural_got {v} {k} {n} e f = f ∙ ap natural_is (sym (natural_is_lem s at ((a.ended v k n e).1 0)))

  pub natural_cut : r ≡ Leb.TheVariants.Cut → Err (no_at bytes_end at) ≡ natural_is (u32 s at)
  unfolding unsigned
  natural_cut e = rw (a.lacking e 0)

  pub natural_long : {v n : ℕ} → r ≡ Leb.TheVariants.Long v n → Err (no_at bad_number at) ≡ natural_is (u32 s at)
  unfolding unsigned bits_at
  natural_long {v} {n} e = rw ((a.going v n e).1 0)

pub five-bytes : MostBytes 5
five-bytes = record { some = lit≤ tt; fit = lit≤ tt }

-- signed_at, over the width: one to which five bytes are the greatest length

same_range : (half width : ℕ) → half ≡ 2 ^ (width - 1) → (w : Whole) → in_half half w ≡ within_signed width w
same_range half width h (plus v) = rw h
same_range half width h (minus v) = rw h

pub range_is : (at half width : ℕ) → half ≡ 2 ^ (width - 1) → (v k n : ℕ) → range_of at half v k n ≡ in_range width at (bits v k n) signed_of within_signed
unfolding range_of
range_is at half width h v k n = rw (same_range half width h (signed_of v k))

signed_is : (width : ℕ) (s : List ℕ) (at : ℕ) {o : Bits} → greatest_length width ≡ 5 → bits_at 5 s at ≡ o → signed width s at ≡ in_range width at o signed_of within_signed
unfolding signed
signed_is width s at l e = rw (l, e)

-- a byte as a whole number is in every range that is at least a byte's
byte_held : (width half v : ℕ) → half ≡ 2 ^ (width - 1) → 2 ^ 6 ≤ half → v < 2 ^ 7 → within_signed width (signed_of v 1) ≡ true
byte_held width half v h wide low = go (ltb v (2 ^ 6)) refl
  where
    go : (t : Bool) → ltb v (2 ^ 6) ≡ t → within_signed width (cond t (plus v) (minus (2 ^ 7 - v))) ≡ true
    go true e = let less = ltb-true v (2 ^ 6) e in lt-ltb v (2 ^ (width - 1)) (omega arith)
    go false e = let more = ltb-false v (2 ^ 6) e in le-leb (2 ^ 7 - v) (2 ^ (width - 1)) (omega arith)

pub byte_range : (at half width : ℕ) → half ≡ 2 ^ (width - 1) → 2 ^ 6 ≤ half → (v n : ℕ) → v < 2 ^ 7 → in_range width at (bits v 1 n) signed_of within_signed ≡ got (signed_of v 1) n
byte_range at half width h wide v n low = rw (byte_held width half v h wide low)

module _ {s : List ℕ} {at half : ℕ} {r : Leb} (a : BitsRead 5 s at r) where
  pub signed-one : {v n : ℕ} {q : Integer} → r ≡ Leb.TheVariants.One v n → q ≡ integer_is (got (signed_of v 1) n) → SignedRead s at half q
  signed-one {v} {n} e f =
      let low = (a.one v n e).0 in
      record { is = λ width l h wide. f ∙ ap integer_is (sym (byte_range at half width h wide v n low) ∙ sym (signed_is width s at l ((a.one v n e).1 0))) }

  pub signed_got : {v k n : ℕ} {q : Integer} → r ≡ Leb.TheVariants.Bits v k n → q ≡ integer_is (range_of at half v k n) → SignedRead s at half q
  signed_got {v} {k} {n} e f =
      record { is = λ width l h wide. f ∙ ap integer_is (range_is at half width h v k n ∙ sym (signed_is width s at l ((a.ended v k n e).1 0))) }

  pub signed_cut : r ≡ Leb.TheVariants.Cut → SignedRead s at half (Integer.TheVariants.Refused bytes_end at)
  signed_cut e = record { is = λ width l h wide. ap integer_is (sym (signed_is width s at l (a.lacking e 0))) }

  pub signed_long : {v n : ℕ} → r ≡ Leb.TheVariants.Long v n → SignedRead s at half (Integer.TheVariants.Refused bad_number at)
  unfolding bits_at
  signed_long {v} {n} e = record { is = λ width l h wide. ap integer_is (sym (signed_is width s at l ((a.going v n e).1 0))) }

pub one-low : {most : ℕ} {s : List ℕ} {at : ℕ} {r : Leb} {v n : ℕ} → BitsRead most s at r → r ≡ Leb.TheVariants.One v n → v < 2 ^ 7
one-low {v = v} {n = n} a e = (a.one v n e).0

pub few_bits : {most : ℕ} {s : List ℕ} {at : ℕ} {r : Leb} {v k n : ℕ} → MostBytes most → BitsRead most s at r → r ≡ Leb.TheVariants.Bits v k n → Few 9 v k
few_bits {v = v} {k = k} {n = n} fit a e =
    let f = (a.ended v k n e).0 in
    let g = fit.fit in
    let h = f.few in
    record { some = f.some; few = omega arith; seven = f.seven }

pub ruleset width_exits = (signed-one, signed_got, signed_cut, signed_long, one-low, few_bits, five-bytes)

pub ruleset natural_exits = (natural_byte, natural_got, natural_cut, natural_long, few_bits, five-bytes)

-- the two widths

pub s32_read : {s : List ℕ} {at : ℕ} {r : Integer} → SignedRead s at (2 ^ 31) r → r ≡ integer_is (s32 s at)
s32_read a = a.is 32 refl refl (lit≤ tt)

pub s33_read : {s : List ℕ} {at : ℕ} {r : Integer} → SignedRead s at (2 ^ 32) r → r ≡ integer_is (s33 s at)
s33_read a = a.is 33 refl refl (lit≤ tt)
