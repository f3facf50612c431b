-- The items of an instruction: floats, blocks' types, casts and pairs of numbers are read exactly where a writing of them lies.
use Prim.Native.Nat.{ℕ, zero, suc, ◌+◌, ◌*◌, ◌%◌, ◌<◌}
use native.Mathlib.Omega.{arith}
use mathlib.Core.Path.{◌≡◌, refl, sym, ◌∙◌, ap, subst}
use mathlib.Core.Bool.{Bool, true, false, cond}
use mathlib.Core.Option.{Option, none, some}
use mathlib.Core.List.{List, [], ◌∷◌, ◌++◌}
use lib.ListN.{length, get_elem?}
use lib.Dec.{eqb, ltb, leb}
use borrow.Author.Tests.{eqb-true, ltb-true}
use Rattle.scope.specs.Refusals.{bytes_end, not_listed}
use Rattle.scope.specs.Reading.{Read, got, refused, Reader, given, then, on_byte}
use Rattle.scope.specs.Numbers.{u32, little_endian, float_bytes}
use Rattle.scope.specs.Abstract.{Abstract, NOFUNC, NOEXTERN, NONE, FUNC, EXTERN, ANY, EQ, I31, STRUCT, ARRAY, row}
use Rattle.scope.specs.Syntax.{Heap, Val}
use Rattle.scope.specs.Sections.{heap_at, val_at}
use Rattle.scope.specs.Instructions.{Cast, block_type_at, cast_at}
use Rattle.scope.proofs.Truths.{none_is_not-some}
use Rattle.facts_sections.specs.Between.{Between, nothing, byte}
use Rattle.facts_sections.specs.Writing.{Unsigned, Anywhere, WritesHeap, WritesVal, i32_type, i64_type, f32_type, f64_type, nullable_reference, reference, abstract_alone}
use Rattle.facts_sections.proofs.Between.{join, split, end_is}
use Rattle.facts_sections.proofs.Readers.{Found, Reads, AnySize, refused_is_not_got, by_cond, by_given, then_got, byte_got, found_got, this_byte}
use Rattle.facts_sections.proofs.NumberReading.{unsigned_reads}
use Rattle.facts_sections.proofs.ValueReading.{heap_reads, val_reads}
use Rattle.facts_instructions.specs.Writing.{LowestFirst, no_byte, low_byte, FloatBytes, WritesBlockType, no_result, one_result, Flags, flags_0, flags_1, flags_2, flags_3, WritesCast, a_cast, WritesTwo, two_numbers}

-- floats

record LowFound (n : ℕ) (s : List ℕ) (at v : ℕ) : Type 0 where
  bytes : List ℕ
  lies : Between s at bytes (at + n)
  bits : LowestFirst bytes v
  long : length bytes ≡ n

low_found : (n : ℕ) (s : List ℕ) (at : ℕ) {v : ℕ} → little_endian n s at ≡ some v → LowFound n s at v
unfolding little_endian
low_found zero s at {v} e =
    let same : 0 ≡ v = cc in
    let stay : at ≡ at + 0 = omega arith in
    rw (← same) (record { bytes = []; lies = subst (Between s at []) stay nothing; bits = no_byte; long = refl })
low_found (suc n) s at {v} e = go (get_elem? s at) refl (little_endian n s (at + 1)) refl e (λ u. low_found n s (at + 1) {v = u})
  where
    go : (o : Option ℕ) → get_elem? s at ≡ o → (h : Option ℕ) → little_endian n s (at + 1) ≡ h → given o none (λ b. given h none (λ v. some (b + 256 * v))) ≡ some v
        → ((u : ℕ) → little_endian n s (at + 1) ≡ some u → LowFound n s (at + 1) u) → LowFound (suc n) s at v
    go none there h high e later = absurd (none_is_not-some e)
    go (some b) there none high e later = absurd (none_is_not-some e)
    go (some b) there (some u) high e later =
        let same : b + 256 * u ≡ v = cc in
        let f = later u high in
        let far : at + 1 + n ≡ at + suc n = omega arith in
        rw (← same) (record { bytes = b ∷ f.bytes; lies = byte there (subst (Between s (at + 1) f.bytes) far f.lies); bits = low_byte f.bits; long = ap suc f.long })

low_read : {s w : List ℕ} {at next v : ℕ} → Between s at w next → LowestFirst w v → little_endian (length w) s at ≡ some v
unfolding little_endian
low_read nothing no_byte = refl
low_read (byte there rest) (low_byte more) = rw (there, low_read rest more)

float_found : (n : ℕ) (s : List ℕ) (at : ℕ) {v next : ℕ} → float_bytes n s at ≡ got v next → Found (Anywhere (FloatBytes n)) AnySize s at v next
unfolding float_bytes
float_found n s at {v} {next} e =
    by_given (little_endian n s at)
    (λ u there g.
    let f = low_found n s at there in
    found_got g (record { bytes = f.bytes; lies = f.lies; writes = record { bits = f.bits; long = f.long }; small = tt }))
    (λ absent g. absurd (refused_is_not_got g)) e

float_read : (n : ℕ) {s w : List ℕ} {at next v : ℕ} → Between s at w next → FloatBytes n w v → float_bytes n s at ≡ got v next
unfolding float_bytes
float_read n {s} {w} {at} {next} {v} lies f =
    let there : little_endian n s at ≡ some v = rw (← f.long) (low_read lies f.bits) in
    let far : at + n ≡ next = let e = end_is lies in let l = f.long in omega arith in
    rw (there, far)

pub float_reads : (n : ℕ) → Reads (Anywhere (FloatBytes n)) AnySize (float_bytes n)
float_reads n = record { sound = float_found n; complete = λ lies writes small. float_read n lies writes }

-- blocks' types

not_40 : (a : Abstract) → eqb (row a).code 0x40 ≡ false
not_40 NOFUNC = refl
not_40 NOEXTERN = refl
not_40 NONE = refl
not_40 FUNC = refl
not_40 EXTERN = refl
not_40 ANY = refl
not_40 EQ = refl
not_40 I31 = refl
not_40 STRUCT = refl
not_40 ARRAY = refl

record FirstByte (s : List ℕ) (at : ℕ) : Type 0 where
  b : ℕ
  there : get_elem? s at ≡ some b
  other : eqb b 0x40 ≡ false

val_first : {s w : List ℕ} {at next : ℕ} {v : Val} → Between s at w next → WritesVal w v → FirstByte s at
val_first (byte there rest) i32_type = record { b = 0x7F; there = there; other = refl }
val_first (byte there rest) i64_type = record { b = 0x7E; there = there; other = refl }
val_first (byte there rest) f32_type = record { b = 0x7D; there = there; other = refl }
val_first (byte there rest) f64_type = record { b = 0x7C; there = there; other = refl }
val_first (byte there rest) (nullable_reference h) = record { b = 0x63; there = there; other = refl }
val_first (byte there rest) (reference h) = record { b = 0x64; there = there; other = refl }
val_first (byte there rest) (abstract_alone {a = a}) = record { b = (row a).code; there = there; other = not_40 a }
val_first {s = s} {at = at} {v = v} nothing x5 = elim x5 [ ]

block_type_found : (s : List ℕ) (at : ℕ) {rs : List Val} {next : ℕ} → block_type_at s at ≡ got rs next → Found (Anywhere WritesBlockType) AnySize s at rs next
unfolding block_type_at
block_type_found s at e =
    let (b, there, f) = byte_got s at _ e in
    by_cond (eqb b 0x40)
    (λ same g. found_got g (record { bytes = 0x40 ∷ []; lies = this_byte there (eqb-true b 0x40 same) nothing; writes = no_result; small = tt }))
    (λ other g.
    let (v, end, read, h) = then_got (val_at s at) (λ v next. got (v ∷ []) next) g in
    let n = val_reads.sound s at read in
    found_got h (record { bytes = n.bytes; lies = n.lies; writes = one_result n.writes; small = tt }))
    f

block_type_read : {s w : List ℕ} {at next : ℕ} {rs : List Val} → Between s at w next → WritesBlockType w rs → block_type_at s at ≡ got rs next
unfolding block_type_at
block_type_read (byte there nothing) no_result = rw there
block_type_read lies (one_result v) = let f = val_first lies v in rw (f.there, f.other, val_reads.complete lies v tt)

pub block_type_reads : Reads (Anywhere WritesBlockType) AnySize block_type_at
block_type_reads = record { sound = block_type_found; complete = λ lies writes small. block_type_read lies writes }

-- casts

flags_of : (b : ℕ) → b < 4 → Flags b (eqb (b % 2) 1) (leb 2 b)
flags_of zero h = flags_0
flags_of (suc zero) h = flags_1
flags_of (suc (suc zero)) h = flags_2
flags_of (suc (suc (suc zero))) h = flags_3
flags_of (suc (suc (suc (suc b)))) h = absurd (let none-such : ⊥ = omega arith in none-such)

cast_found : (s : List ℕ) (at : ℕ) {k : Cast} {next : ℕ} → cast_at s at ≡ got k next → Found (Anywhere WritesCast) AnySize s at k next
unfolding cast_at
cast_found s at e =
    let (b, there, f) = byte_got s at _ e in
    by_cond (ltb b 4)
    (λ few g.
    let (l, next, label, h) = then_got (u32 s (at + 1)) _ g in
    let (source, after, first, i) = then_got (heap_at s next) _ h in
    let (target, stop, second, j) = then_got (heap_at s after) _ i in
    let m = (unsigned_reads 32).sound s (at + 1) label in
    let n = heap_reads.sound s next first in
    let o = heap_reads.sound s after second in
    found_got j
    (record {
      bytes = b ∷ m.bytes ++ (n.bytes ++ o.bytes);
      lies = byte there (join m.lies (join n.lies o.lies));
      writes = a_cast (flags_of b (ltb-true b 4 few)) m.writes n.writes o.writes;
      small = tt;
    }))
    (λ many g. absurd (refused_is_not_got g))
    f

cast_read : {s w : List ℕ} {at next : ℕ} {k : Cast} → Between s at w next → WritesCast w k → cast_at s at ≡ got k next
unfolding cast_at
cast_read (byte there rest) (a_cast {w = w} {u = u} flags_0 l h k) =
    let (mid, label, more) = split w rest in
    let (far, source, target) = split u more in
    rw (there, (unsigned_reads 32).complete label l tt, heap_reads.complete source h tt, heap_reads.complete target k tt)
cast_read (byte there rest) (a_cast {w = w} {u = u} flags_1 l h k) =
    let (mid, label, more) = split w rest in
    let (far, source, target) = split u more in
    rw (there, (unsigned_reads 32).complete label l tt, heap_reads.complete source h tt, heap_reads.complete target k tt)
cast_read (byte there rest) (a_cast {w = w} {u = u} flags_2 l h k) =
    let (mid, label, more) = split w rest in
    let (far, source, target) = split u more in
    rw (there, (unsigned_reads 32).complete label l tt, heap_reads.complete source h tt, heap_reads.complete target k tt)
cast_read (byte there rest) (a_cast {w = w} {u = u} flags_3 l h k) =
    let (mid, label, more) = split w rest in
    let (far, source, target) = split u more in
    rw (there, (unsigned_reads 32).complete label l tt, heap_reads.complete source h tt, heap_reads.complete target k tt)
cast_read {s = s} {at = at} {k = k} nothing x5 = elim x5 [ ]

pub cast_reads : Reads (Anywhere WritesCast) AnySize cast_at
cast_reads = record { sound = cast_found; complete = λ lies writes small. cast_read lies writes }
