-- Numbers of 64 bits: nine bytes, whose bits fit a word, and a tenth, of which one bit belongs to the number.
use Prim.Native.Nat.{ℕ, ◌+◌, ◌-◌, ◌*◌, ◌^◌, ◌<◌}
use mathlib.Core.Path.{◌≡◌, refl, sym, ap, ◌∙◌}
use mathlib.Core.Bool.{Bool, true, false}
use mathlib.Core.List.{List}
use native.Mathlib.Omega.{arith}
use lib.ListN.{get_elem?}
use lib.Dec.{ltb, lit≤}
use borrow.Author.Tests.{lt-ltb, le-ltb, le-leb, lt-leb, ltb-true, ltb-false}
use Rattle.scope.specs.Told.{Maybe}
use Rattle.std.specs.Prelude.{None, Some}
use Rattle.scope.specs.Refusals.{bytes_end, bad_number}
use Rattle.scope.specs.Reading.{got}
use Rattle.scope.specs.Numbers.{Bits, bits, bits_at, unless_padded, in_range, plus, minus, signed_of, within_signed, signed, s64}
use Rattle.number_bits.specs.declared.Leb.{Leb}
use Rattle.number_bits.specs.declared.Leb
use Rattle.number_values.specs.declared.Integer.{Integer}
use Rattle.number_values.specs.declared.Integer
use Rattle.number_bytes.specs.Bytes.{ByteAt}
use Rattle.number_bytes.proofs.Laws.{byte_got, byte_none, next_fits}
use Rattle.number_values.specs.Values.{Counts, Below, integer_is, range_of}
use Rattle.number_bits.specs.Bits.{above, MostBytes, BitsRead}
use Rattle.number.specs.Widths.{Tenth}
use Rattle.number_bits.proofs.Bits.{bits_last, bits_more, bits_cut}
use Rattle.number.proofs.Ranges.{byte_range, range_is, one-low, few_bits}

pub nine_bytes : MostBytes 9
nine_bytes = record { some = lit≤ tt; fit = lit≤ tt }

module _ {s : List ℕ} {at : ℕ} {r : Leb} (a : BitsRead 9 s at r) where
  pub wide_one : {v n : ℕ} {q : Integer} → r ≡ Leb.TheVariants.One v n → q ≡ integer_is (got (signed_of v 1) n) → q ≡ integer_is (s64 s at)
  unfolding signed
  wide_one {v} {n} e f = f ∙ ap integer_is (sym (byte_range at (2 ^ 63) 64 refl (lit≤ tt) v n (a.one v n e).0) ∙ ap (λ (o : Bits). in_range 64 at o signed_of within_signed) (sym ((a.one v n e).1 1)))

  pub wide_got : {v k n : ℕ} {q : Integer} → r ≡ Leb.TheVariants.Bits v k n → q ≡ integer_is (range_of at (2 ^ 63) v k n) → q ≡ integer_is (s64 s at)
  unfolding signed
  wide_got {v} {k} {n} e f = f ∙ ap integer_is (range_is at (2 ^ 63) 64 refl v k n ∙ ap (λ (o : Bits). in_range 64 at o signed_of within_signed) (sym ((a.ended v k n e).1 1)))

  pub wide_cut : r ≡ Leb.TheVariants.Cut → Integer.TheVariants.Refused bytes_end at ≡ integer_is (s64 s at)
  unfolding signed
  wide_cut e = rw (a.lacking e 1)

  pub wide_low : {low next : ℕ} → r ≡ Leb.TheVariants.Long low next → low < 2 ^ 63
  wide_low {low} {next} e = (a.going low next e).0

  pub wide_tenth : {low next : ℕ} {q : Integer} → r ≡ Leb.TheVariants.Long low next → Tenth s at low next q → q ≡ integer_is (s64 s at)
  wide_tenth {low} {next} e f = f.is (a.going low next e).0 ((a.going low next e).1 1)

pub ruleset wide_exits = (wide_one, wide_got, wide_cut, wide_low, wide_tenth, one-low, few_bits, nine_bytes)

-- the tenth byte

module _ {s : List ℕ} {next : ℕ} {r : Maybe ℕ} (a : ByteAt s next r) where
  ten_bits : (at low : ℕ) {b : ℕ} → r ≡ Some b → b < 128 → bits_at 10 s at ≡ above low (2 ^ 63) 9 (bits_at 1 s next) → bits_at 10 s at ≡ bits (low + 2 ^ 63 * b) 10 (next + 1)
  ten_bits at low {b} e h p = p ∙ ap (above low (2 ^ 63) 9) (bits_last 0 s next (byte_got (get_elem? s next) a.is e) h)

  pub tenth_missing : {at low : ℕ} → r ≡ None → Tenth s at low next (Integer.TheVariants.Refused bytes_end at)
  unfolding signed
  tenth_missing e = record { is = λ h p. rw (p, bits_cut 0 s next (byte_none (get_elem? s next) a.is e)) }

  pub tenth_plus : {at low b : ℕ} {q : Integer} → r ≡ Some b → b ≡ 0 → q ≡ integer_is (unless_padded at 10 (next + 1) within_signed (plus low)) → Tenth s at low next q
  unfolding signed
  tenth_plus {at} {low} {b} e z f =
      record {
        is = λ h p.
            let value : low + 2 ^ 63 * b ≡ low = omega arith in
            rw (ten_bits at low e (omega arith) p, value, lt-ltb low (2 ^ 69) (omega arith), lt-ltb low (2 ^ 63) h) f;
      }

  pub tenth_minus : {at low b : ℕ} {q : Integer} → r ≡ Some b → b ≡ 127 → q ≡ integer_is (unless_padded at 10 (next + 1) within_signed (minus (2 ^ 63 - low))) → Tenth s at low next q
  unfolding signed
  tenth_minus {at} {low} {b} e z f =
      record {
        is = λ h p.
            let value : 2 ^ 70 - (low + 2 ^ 63 * b) ≡ 2 ^ 63 - low = omega arith in
            rw (ten_bits at low e (omega arith) p, le-ltb (low + 2 ^ 63 * b) (2 ^ 69) (omega arith), value, le-leb (2 ^ 63 - low) (2 ^ 63) (omega arith)) f;
      }

  pub tenth_beyond : {at low b : ℕ} → r ≡ Some b → (b ≡ 0 → ⊥) → (b ≡ 127 → ⊥) → Tenth s at low next (Integer.TheVariants.Refused bad_number at)
  unfolding signed bits_at
  tenth_beyond {at} {low} {b} e n m = record { is = λ h p. go (ltb b 128) refl h p }
    where
      -- of seven bits that are not all alike: beyond the range, above it or below
      beyond : (t : Bool) → ltb (low + 2 ^ 63 * b) (2 ^ 69) ≡ t → b < 128 → low < 2 ^ 63 → bits_at 10 s at ≡ bits (low + 2 ^ 63 * b) 10 (next + 1) → Integer.TheVariants.Refused bad_number at ≡ integer_is (signed 64 s at)
      beyond true q g h p = rw (p, q, le-ltb (low + 2 ^ 63 * b) (2 ^ 63) (omega arith))
      beyond false q g h p = rw (p, q, lt-leb (2 ^ 70 - (low + 2 ^ 63 * b)) (2 ^ 63) (omega arith))

      go : (t : Bool) → ltb b 128 ≡ t → low < 2 ^ 63 → bits_at 10 s at ≡ above low (2 ^ 63) 9 (bits_at 1 s next) → Integer.TheVariants.Refused bad_number at ≡ integer_is (signed 64 s at)
      go false q h p = rw (p, bits_more 0 s next (byte_got (get_elem? s next) a.is e) (ltb-false b 128 q))
      go true q h p = let g = ltb-true b 128 q in beyond (ltb (low + 2 ^ 63 * b) (2 ^ 69)) refl g h (ten_bits at low e g p)

pub ten-counts : Counts 10
ten-counts = record { some = lit≤ tt; few = lit≤ tt }

pub ten-below : {low : ℕ} → low < 2 ^ 63 → Below (2 ^ 63 - low) 10
ten-below {low} h = record { negative = omega arith; counts = ten-counts }

pub ruleset tenth_exits = (tenth_missing, tenth_plus, tenth_minus, tenth_beyond, ten-counts, ten-below, next_fits)
