-- A number is refused with 1, 2 or 32 exactly where its bytes say so: the reader of bits goes as far as bytes go on, and what it
-- comes to decides. One proof over the width and the sign.
use Prim.Native.Nat.{ℕ, zero, suc, ◌+◌, ◌-◌, ◌*◌, ◌≤◌, ◌<◌}
use native.Mathlib.Omega.{arith}
use mathlib.Core.Path.{◌≡◌, refl, sym, ◌∙◌}
use mathlib.Core.Logic.{◌⊎◌, inl, inr, ◌↔◌}
use mathlib.Core.Bool.{Bool, true, false, cond, ◌&&◌, false≢true}
use mathlib.Core.Option.{none, some}
use mathlib.Core.List.{List}
use lib.ListN.{length, get_elem?}
use lib.Dec.{ltb}
use borrow.Author.Tests.{ltb-false, le-ltb}
use Rattle.scope.specs.Refusals.{bytes_end, bad_number, padded}
use Rattle.scope.specs.Reading.{Read, got, refused}
use Rattle.scope.specs.Numbers.{Bits, bits, cut, long, under, bits_at, greatest_length, in_range, unsigned, signed}
use Rattle.scope.proofs.Impossible.{impossible}
use Rattle.facts_sections.specs.Writing.{Shortest}
use Rattle.facts_sections.specs.NumberFaults.{GoOn, none_yet, goes_on_lem, EndsInside, Lies, OutOfRange, out_of_range, HasSpare, has_spare_lem, EveryNumber}
use Rattle.facts_sections.proofs.Readers.{by_cond, by_given}
use Rattle.facts_sections.proofs.NumberKinds.{Kind, natural_kind, whole_kind, spare_of, needed_shortest, shortest_needed}
use Rattle.facts_sections.proofs.NumberReading.{BitsFound, bits_found, bits_read}

-- Bytes that all go on

record Cut (room : ℕ) (s : List ℕ) (at : ℕ) : Type 0 where
  many : ℕ
  few : many < room
  all : GoOn s at many
  ends : get_elem? s (at + many) ≡ none

cut_under : (b : ℕ) (r : Bits) → under b r ≡ cut → r ≡ cut
cut_under b (bits v k next) e = impossible cc
cut_under b cut e = refl
cut_under b long e = impossible cc

long_under : (b : ℕ) (r : Bits) → under b r ≡ long → r ≡ long
long_under b (bits v k next) e = impossible cc
long_under b cut e = impossible cc
long_under b long e = refl

cut_found : (room : ℕ) (s : List ℕ) (at : ℕ) → bits_at room s at ≡ cut → Cut room s at
unfolding bits_at
cut_found zero s at e = impossible cc
cut_found (suc room) s at e =
    by_given (get_elem? s at)
    (λ b there f.
    by_cond (ltb b 128)
    (λ low g. impossible cc)
    (λ high g. longer b there (ltb-false b 128 high) (cut_found room s (at + 1) (cut_under b (bits_at room s (at + 1)) g)))
    f)
    (λ absent f. record { many = 0; few = omega arith; all = none_yet; ends = rw (let z : at + 0 ≡ at = omega arith in z) absent })
    e
  where
    longer : (b : ℕ) → get_elem? s at ≡ some b → 128 ≤ b → Cut room s (at + 1) → Cut (suc room) s at
    longer b there high later =
        let further : at + suc later.many ≡ at + 1 + later.many = omega arith in
        record {
          many = suc later.many;
          few = let h = later.few in omega arith;
          all = goes_on_lem there high later.all;
          ends = rw further later.ends;
        }

long_found : (room : ℕ) (s : List ℕ) (at : ℕ) → bits_at room s at ≡ long → GoOn s at room
unfolding bits_at
long_found zero s at e = none_yet
long_found (suc room) s at e =
    by_given (get_elem? s at)
    (λ b there f.
    by_cond (ltb b 128)
    (λ low g. impossible cc)
    (λ high g. goes_on_lem there (ltb-false b 128 high) (long_found room s (at + 1) (long_under b (bits_at room s (at + 1)) g)))
    f)
    (λ absent f. impossible cc)
    e

cut_read : (room : ℕ) {s : List ℕ} {at n : ℕ} → GoOn s at n → n < room → get_elem? s (at + n) ≡ none → bits_at room s at ≡ cut
unfolding bits_at
cut_read zero all few ends = absurd (omega arith)
cut_read (suc room) {s} {at} none_yet few ends =
    let absent : get_elem? s at ≡ none = rw (let z : at + 0 ≡ at = omega arith in z) at ends in rw absent
cut_read (suc room) {s} {at} (goes_on_lem {b = b} {n = n} there high more) few ends =
    let further : at + suc n ≡ at + 1 + n = omega arith in
    let later : bits_at room s (at + 1) ≡ cut = cut_read room more (omega arith) (rw further at ends) in
    rw (there, le-ltb b 128 high, later)

long_read : (room : ℕ) {s : List ℕ} {at : ℕ} → GoOn s at room → bits_at room s at ≡ long
unfolding bits_at
long_read zero none_yet = refl
long_read (suc room) {s} {at} (goes_on_lem {b = b} there high more) =
    let later : bits_at room s (at + 1) ≡ long = long_read room more in rw (there, le-ltb b 128 high, later)

-- What the reader comes to

module _ {A : Type 0} {value : ℕ → ℕ → A} {holds : ℕ → A → Bool} {W : List ℕ → A → Type 0} {Range : ℕ → A → Type 0} (kind : Kind value holds W Range) (width : ℕ) (s : List ℕ) (at : ℕ) where
  abbrev answer : Bits → Read A
  answer r = in_range width at r value holds

  -- the bits that were found are a writing of their value
  lying : (v k next : ℕ) → BitsFound (greatest_length width) s at v k next → (l : Lies W width s at) × (l.value ≡ value v k) × (k ≡ length l.bytes)
  lying v k next f =
      let same : value v (length f.bytes) ≡ value v k = rw f.count in
      (record { bytes = f.bytes; next = next; value = value v (length f.bytes); lies = f.lies; writes = kind.meant f.writes; short = f.short }, same, f.count)

  -- and the other way round
  lain : (l : Lies W width s at) → (v : ℕ) × (bits_at (greatest_length width) s at ≡ bits v (length l.bytes) l.next) × (value v (length l.bytes) ≡ l.value)
  lain l =
      let (v, sevens, meant) = kind.means l.writes in
      (v, bits_read (greatest_length width) l.lies sevens l.short, meant)

  ranged : (x : A) → holds width x ≡ false → ¬ Range width x
  ranged x e r = false≢true (sym e ∙ (kind.in_range_lem width x).1 r)

  unranged : (x : A) (t : Bool) → holds width x ≡ t → ¬ Range width x → t ≡ false
  unranged x true e never = absurd (never ((kind.in_range_lem width x).0 e))
  unranged x false e never = refl

  spared : (l : Lies W width s at) → (ltb 1 (length l.bytes) && holds (7 * (length l.bytes - 1)) l.value) ≡ true → ¬ Shortest W l.bytes l.value
  spared l e least = false≢true (sym (shortest_needed kind l.writes least) ∙ e)

  unspared : (l : Lies W width s at) (t : Bool) → (ltb 1 (length l.bytes) && holds (7 * (length l.bytes - 1)) l.value) ≡ t → ¬ Shortest W l.bytes l.value → t ≡ true
  unspared l true e never = refl
  unspared l false e never = absurd (never (needed_shortest kind l.writes e))

  -- by what the bits are: cut, too long, or a number whose range and bytes are asked
  by_bits : {C : Type 0} {n p : ℕ} (r : Bits) → bits_at (greatest_length width) s at ≡ r
      → (bytes_end ≡ n → at ≡ p → EndsInside width s at → C)
      → (bad_number ≡ n → at ≡ p → (GoOn s at (greatest_length width) ⊎ OutOfRange W Range width s at) → C)
      → (padded ≡ n → at ≡ p → HasSpare W Range width s at → C)
      → answer r ≡ refused n p → C
  by_bits {n = n} {p = p} cut e ends bad spare f =
      let found = cut_found (greatest_length width) s at e in
      let number : bytes_end ≡ n = cc in
      let place : at ≡ p = cc in
      ends number place (record { many = found.many; few = found.few; all = found.all; ends = found.ends })
  by_bits {n = n} {p = p} long e ends bad spare f =
      let number : bad_number ≡ n = cc in
      let place : at ≡ p = cc in
      bad number place (inl (long_found (greatest_length width) s at e))
  by_bits {C} {n} {p} (bits v k next) e ends bad spare f =
      let (l, same, count) = lying v k next (bits_found (greatest_length width) s at e) in
      go l same count (holds width (value v k)) refl (ltb 1 k && holds (7 * (k - 1)) (value v k)) refl f
    where
      go : (l : Lies W width s at) → l.value ≡ value v k → k ≡ length l.bytes → (t : Bool) → holds width (value v k) ≡ t → (u : Bool) → (ltb 1 k && holds (7 * (k - 1)) (value v k)) ≡ u
          → cond t (cond u (refused padded at) (got (value v k) next)) (refused bad_number at) ≡ refused n p → C
      go l same count true q false test g = impossible cc
      go l same count false q u test g =
          let number : bad_number ≡ n = cc in
          let place : at ≡ p = cc in
          bad number place (inr (out_of_range l (rw same (ranged (value v k) q))))
      go l same count true q true test g =
          let range : Range width l.value = rw same ((kind.in_range_lem width (value v k)).0 q) in
          let as_said : (ltb 1 (length l.bytes) && holds (7 * (length l.bytes - 1)) l.value) ≡ true = rw same (spare_of holds (value v k) count test) in
          let number : padded ≡ n = cc in
          let place : at ≡ p = cc in
          spare number place (has_spare_lem l range (spared l as_said))

  ends_said : EndsInside width s at → answer (bits_at (greatest_length width) s at) ≡ refused bytes_end at
  ends_said x = rw (cut_read (greatest_length width) x.all x.few x.ends)

  long_said : GoOn s at (greatest_length width) → answer (bits_at (greatest_length width) s at) ≡ refused bad_number at
  long_said all = rw (long_read (greatest_length width) all)

  range_said : OutOfRange W Range width s at → answer (bits_at (greatest_length width) s at) ≡ refused bad_number at
  range_said (out_of_range l never) =
      let (v, there, meant) = lain l in
      let beyond : holds width l.value ≡ false = unranged l.value (holds width l.value) refl never in
      rw (there, meant, beyond)

  spare_said : HasSpare W Range width s at → answer (bits_at (greatest_length width) s at) ≡ refused padded at
  spare_said (has_spare_lem l range never) =
      let (v, there, meant) = lain l in
      let inside : holds width l.value ≡ true = (kind.in_range_lem width l.value).1 range in
      let more : (ltb 1 (length l.bytes) && holds (7 * (length l.bytes - 1)) l.value) ≡ true = unspared l (ltb 1 (length l.bytes) && holds (7 * (length l.bytes - 1)) l.value) refl never in
      rw (there, meant, inside, more)

  ends_exactly : (answer (bits_at (greatest_length width) s at) ≡ refused bytes_end at) ↔ EndsInside width s at
  ends_exactly = (by_bits (bits_at (greatest_length width) s at) refl (λ n p x. x) (λ n p x. absurd (omega (arith, n))) (λ n p x. absurd (omega (arith, n))), ends_said)

  bad_exactly : (answer (bits_at (greatest_length width) s at) ≡ refused bad_number at) ↔ (GoOn s at (greatest_length width) ⊎ OutOfRange W Range width s at)
  bad_exactly = (by_bits (bits_at (greatest_length width) s at) refl (λ n p x. absurd (omega (arith, n))) (λ n p x. x) (λ n p x. absurd (omega (arith, n))), back)
    where
      back : GoOn s at (greatest_length width) ⊎ OutOfRange W Range width s at → answer (bits_at (greatest_length width) s at) ≡ refused bad_number at
      back (inl all) = long_said all
      back (inr out) = range_said out

  spare_exactly : (answer (bits_at (greatest_length width) s at) ≡ refused padded at) ↔ HasSpare W Range width s at
  spare_exactly = (by_bits (bits_at (greatest_length width) s at) refl (λ n p x. absurd (omega (arith, n))) (λ n p x. absurd (omega (arith, n))) (λ n p x. x), spare_said)

  only_these : (number place : ℕ) → answer (bits_at (greatest_length width) s at) ≡ refused number place → (place ≡ at) × ((number ≡ bytes_end) ⊎ ((number ≡ bad_number) ⊎ (number ≡ padded)))
  only_these number place = by_bits (bits_at (greatest_length width) s at) refl (λ n p x. (sym p, inl (sym n))) (λ n p x. (sym p, inr (inl (sym n)))) (λ n p x. (sym p, inr (inr (sym n))))

pub every-number : EveryNumber
unfolding unsigned signed
every-number =
    record {
      naturals = record { ends = ends_exactly natural_kind; bad = bad_exactly natural_kind; spare = spare_exactly natural_kind; only = only_these natural_kind };
      wholes = record { ends = ends_exactly whole_kind; bad = bad_exactly whole_kind; spare = spare_exactly whole_kind; only = only_these whole_kind };
    }
