-- Numbers are read exactly where they are written, for every width, unsigned and signed by one law: the bits are read
-- seven a byte, then their range is asked, and then whether a byte is to spare.
use Prim.Native.Nat.{ℕ, zero, suc, ◌+◌, ◌-◌, ◌*◌, ◌%◌, ◌<◌, ◌≤◌}
use native.Mathlib.Omega.{arith}
use native.Mathlib.Numerals.{add-one}
use mathlib.Core.Path.{◌≡◌, refl, sym}
use mathlib.Core.Logic.{◌⊎◌, inl, inr}
use mathlib.Core.Bool.{Bool, true, false, cond, ◌&&◌}
use mathlib.Core.Option.{some}
use mathlib.Core.List.{List, [], ◌∷◌}
use lib.ListN.{length, get_elem?}
use lib.Dec.{ltb}
use borrow.Author.Tests.{ltb-true, ltb-false, lt-ltb, le-ltb}
use Rattle.scope.specs.Refusals.{bad_number, padded}
use Rattle.scope.specs.Reading.{got, refused, Reader}
use Rattle.scope.specs.Numbers.{Bits, bits, cut, long, under, bits_at, greatest_length, in_range, unsigned, signed}
use Rattle.scope.proofs.Impossible.{contradiction}
use Rattle.facts_sections.specs.Writing.{Sevens, last_seven, seven_more, Numeral, a_numeral, Unsigned, Signed, Anywhere}
use Rattle.facts_sections.specs.Between.{Between, nothing, byte}
use Rattle.facts_sections.proofs.NumberKinds.{Kind, natural_kind, whole_kind, spare_of, needed_shortest, shortest_needed}
use Rattle.facts_sections.proofs.Readers.{Found, Reads, AnySize, refused_is_not_got, by_cond, by_given, found_got}

-- The bits

pub record BitsFound (room : ℕ) (s : List ℕ) (at v k next : ℕ) : Type 0 where
  pub bytes : List ℕ
  pub lies : Between s at bytes next
  pub writes : Sevens bytes v
  pub count : k ≡ length bytes
  pub short : length bytes ≤ room

no_bits : {v k next : ℕ} {r : Bits} → r ≡ bits v k next → (r ≡ cut) ⊎ (r ≡ long) → ⊥
no_bits e (inl f) = contradiction cc
no_bits e (inr f) = contradiction cc

last_bits : (room : ℕ) {s : List ℕ} {at b v k next : ℕ} → get_elem? s at ≡ some b → b < 128 → bits b 1 (at + 1) ≡ bits v k next → BitsFound (suc room) s at v k next
last_bits room {at = at} {b} {v} {k} {next} there low e =
    let same-value : b ≡ v = cc in
    let same_count : 1 ≡ k = cc in
    let same_end : at + 1 ≡ next = cc in
    record { bytes = b ∷ []; lies = rw (← same_end) (byte there nothing); writes = rw (← same-value) (last_seven low); count = sym same_count; short = omega arith }

more_bits : (room : ℕ) {s : List ℕ} {at b : ℕ} (r : Bits) {v k next : ℕ}
    → get_elem? s at ≡ some b → 128 ≤ b
    → ((u m end : ℕ) → r ≡ bits u m end → BitsFound room s (at + 1) u m end)
    → under b r ≡ bits v k next → BitsFound (suc room) s at v k next
more_bits room cut there high later e = absurd (no_bits e (inl refl))
more_bits room long there high later e = absurd (no_bits e (inr refl))
more_bits room {b = b} (bits u m end) {v} {k} {next} there high later e =
    let rest = later u m end refl in
    let same-value : b % 128 + 128 * u ≡ v = cc in
    let same_count : m + 1 ≡ k = cc in
    let same_end : end ≡ next = cc in
    record {
      bytes = b ∷ rest.bytes;
      lies = rw (← same_end) (byte there rest.lies);
      writes = rw (← same-value) (seven_more high rest.writes);
      count = let c = rest.count in omega arith;
      short = let c = rest.short in omega arith;
    }

pub bits_found : (room : ℕ) (s : List ℕ) (at : ℕ) {v k next : ℕ} → bits_at room s at ≡ bits v k next → BitsFound room s at v k next
unfolding bits_at
bits_found zero s at e = absurd (no_bits e (inr refl))
bits_found (suc room) s at e =
    by_given (get_elem? s at)
    (λ b there f.
    by_cond (ltb b 128)
    (λ low g. last_bits room there (ltb-true b 128 low) g)
    (λ high g. more_bits room (bits_at room s (at + 1)) there (ltb-false b 128 high) (λ u m end. bits_found room s (at + 1)) g)
    f)
    (λ absent f. absurd (no_bits f (inl refl)))
    e

pub bits_read : (room : ℕ) {s w : List ℕ} {at next v : ℕ} → Between s at w next → Sevens w v → length w ≤ room → bits_at room s at ≡ bits v (length w) next
unfolding bits_at
bits_read zero stretch (last_seven low) short = absurd (omega arith)
bits_read zero stretch (seven_more high more) short = absurd (omega arith)
bits_read (suc room) (byte there nothing) (last_seven {b = b} low) short = rw (there, lt-ltb b 128 low)
bits_read (suc room) {s} {at = at} {next = next} (byte there rest) (seven_more {b = b} {v = u} {w = w} high more) short =
    let later : bits_at room s (at + 1) ≡ bits u (length w) next = bits_read room rest more (omega arith) in
    rw (there, later, le-ltb b 128 high, add-one)
bits_read (suc room) {s = s} {at = at} {v = v} nothing x7 short = elim x7 [ ]

-- The range, and that no byte is to spare: one law for every width, unsigned or signed

module _ {A : Type 0} {value : ℕ → ℕ → A} {holds : ℕ → A → Bool} {W : List ℕ → A → Type 0} {Range : ℕ → A → Type 0} (kind : Kind value holds W Range) (width : ℕ) where
  abbrev number : Reader A
  number s at = in_range width at (bits_at (greatest_length width) s at) value holds

  -- what is read: in range, and with no byte to spare
  kept_found : (s : List ℕ) (at v k : ℕ) {x : A} {end next : ℕ} (ranged needs : Bool) → holds width (value v k) ≡ ranged → (ltb 1 k && holds (7 * (k - 1)) (value v k)) ≡ needs
      → BitsFound (greatest_length width) s at v k end → cond ranged (cond needs (refused padded at) (got (value v k) end)) (refused bad_number at) ≡ got x next → Found (Anywhere (Numeral W Range width)) AnySize s at x next
  kept_found s at v k false needs r n f e = absurd (refused_is_not_got e)
  kept_found s at v k true true r n f e = absurd (refused_is_not_got e)
  kept_found s at v k true false r n f e =
      let same : value v k ≡ value v (length f.bytes) = rw f.count in
      let writes : W f.bytes (value v k) = rw same (kind.meant f.writes) in
      let numeral : Numeral W Range width f.bytes (value v k) = a_numeral writes f.short ((kind.in_range_lem width (value v k)).0 r) (needed_shortest kind writes (spare_of holds (value v k) f.count n)) in
      found_got e (record { bytes = f.bytes; lies = f.lies; writes = numeral; small = tt })

  in_range_found : (s : List ℕ) (at : ℕ) (r : Bits) {x : A} {next : ℕ}
      → ((v k end : ℕ) → r ≡ bits v k end → BitsFound (greatest_length width) s at v k end)
      → in_range width at r value holds ≡ got x next → Found (Anywhere (Numeral W Range width)) AnySize s at x next
  in_range_found s at cut found e = absurd (refused_is_not_got e)
  in_range_found s at long found e = absurd (refused_is_not_got e)
  in_range_found s at (bits v k end) found e = kept_found s at v k (holds width (value v k)) (ltb 1 k && holds (7 * (k - 1)) (value v k)) refl refl (found v k end refl) e

  number_sound : (s : List ℕ) (at : ℕ) {x : A} {next : ℕ} → number s at ≡ got x next → Found (Anywhere (Numeral W Range width)) AnySize s at x next
  number_sound s at e = in_range_found s at (bits_at (greatest_length width) s at) (λ v k end. bits_found (greatest_length width) s at) e

  number_complete : {s w : List ℕ} {at next : ℕ} {x : A} → Between s at w next → Numeral W Range width w x → number s at ≡ got x next
  number_complete {w = w} {x = x} stretch (a_numeral writes short range shortest) =
      let (v, sevens, meant) = kind.means writes in
      rw (bits_read (greatest_length width) stretch sevens short, meant, (kind.in_range_lem width x).1 range, shortest_needed kind writes shortest)

-- uN, sN

pub unsigned_reads : (width : ℕ) → Reads (Anywhere (Unsigned width)) AnySize (unsigned width)
unfolding unsigned
unsigned_reads width = record { sound = number_sound natural_kind width; complete = λ stretch writes small. number_complete natural_kind width stretch writes }

pub signed_reads : (width : ℕ) → Reads (Anywhere (Signed width)) AnySize (signed width)
unfolding signed
signed_reads width = record { sound = number_sound whole_kind width; complete = λ stretch writes small. number_complete whole_kind width stretch writes }
