-- Heap types, value types and fields are read exactly where they are written. A first byte tells which way of writing it
-- is: the codes of the ten, 62 to 64 and 7C to 7F are all different, and a type number's first byte is none of them,
-- since a non-negative s33 begins below 64 or at 128 or above.
use Prim.Native.Nat.{ℕ, ◌<◌, ◌≤◌}
use native.Mathlib.Omega.{arith}
use mathlib.Core.Path.{◌≡◌, refl}
use mathlib.Core.Logic.{◌⊎◌, inl, inr}
use mathlib.Core.Bool.{Bool, true, false, not, false≢true}
use mathlib.Core.Option.{Option, none, some}
use mathlib.Core.List.{List, [], ◌∷◌, ◌++◌}
use lib.ListN.{get_elem?}
use lib.Dec.{eqb, ltb, leb}
use borrow.Author.Tests.{eqb-true, ne_eqb, ltb-true, leb-true, not-true}
use Rattle.scope.specs.Lists.{is_none}
use Rattle.scope.specs.Reading.{got}
use Rattle.scope.specs.Numbers.{Whole, plus, minus, s33}
use Rattle.scope.specs.Abstract.{Abstract, row, ten, first_with, abstract_of}
use Rattle.scope.specs.Syntax.{Heap, exact, Number, Val, num, ref, Field}
use Rattle.scope.specs.Sections.{type_number, heap_at, number_of, val_at, flag_at, field_at}
use Rattle.scope.proofs.Truths.{none_is_not-some}
use Rattle.scope.proofs.TenRows.{each, code-names}
use Rattle.facts_sections.specs.Writing.{last_seven, seven_more, not_negative, a_numeral, Signed, WritesHeap, exact_type, abstract_code_lem, is_type_number, WritesVal, i32_type, i64_type, f32_type, f64_type, nullable_reference, reference, abstract_alone, WritesFlag, fixed_flag, mutable_flag, WritesField, a_field, Anywhere}
use Rattle.facts_sections.specs.Between.{Between, nothing, byte}
use Rattle.facts_sections.proofs.Between.{join, split_at}
use Rattle.facts_sections.proofs.Readers.{Found, Reads, AnySize, refused_is_not_got, then_got, byte_got, by_cond, by_given, found_got, this_byte, coded}
use Rattle.facts_sections.proofs.NumberReading.{unsigned_reads, signed_reads}

-- Codes

first_code : (b : ℕ) (xs : List Abstract) {a : Abstract} → first_with b xs ≡ some a → b ≡ (row a).code
first_code b [] e = absurd (none_is_not-some e)
first_code b (x ∷ xs) {a} e =
    by_cond (eqb b (row x).code) (λ same f. let p : x ≡ a = cc in rw (← p) (eqb-true b (row x).code same)) (λ other f. first_code b xs f) e

pub code_of : {b : ℕ} {a : Abstract} → abstract_of b ≡ some a → b ≡ (row a).code
code_of {b} e = first_code b ten e

pub record CodeKept (a : Abstract) : Type 0 where
  pub high : 64 ≤ (row a).code
  pub low : (row a).code < 128
  pub not_exact_lem : eqb (row a).code 0x62 ≡ false
  pub not-nullable : eqb (row a).code 0x63 ≡ false
  pub not_reference : eqb (row a).code 0x64 ≡ false
  pub not-number : is_none (number_of (row a).code) ≡ true

pub code-kept : (a : Abstract) → CodeKept a
code-kept a =
    record {
      high = leb-true _ _ (each (λ b. leb 64 (row b).code) refl a);
      low = ltb-true _ _ (each (λ b. ltb (row b).code 128) refl a);
      not_exact_lem = not-true _ (each (λ b. not (eqb (row b).code 0x62)) refl a);
      not-nullable = not-true _ (each (λ b. not (eqb (row b).code 0x63)) refl a);
      not_reference = not-true _ (each (λ b. not (eqb (row b).code 0x64)) refl a);
      not-number = each (λ b. is_none (number_of (row b).code)) refl a;
    }

-- Heap types

far_from_codes : (b : ℕ) → (b < 64) ⊎ (128 ≤ b) → (eqb b 0x62 ≡ false) × (abstract_of b ≡ none)
far_from_codes b far = (ne_eqb b 0x62 (not_here far), go (abstract_of b) refl)
  where
    not_here : (b < 64) ⊎ (128 ≤ b) → b ≡ 0x62 → ⊥
    not_here (inl low) e = omega arith
    not_here (inr high) e = omega arith

    no_code : (b < 64) ⊎ (128 ≤ b) → (a : Abstract) → b ≡ (row a).code → ⊥
    no_code (inl low) a e = let c = (code-kept a).high in omega arith
    no_code (inr high) a e = let c = (code-kept a).low in omega arith

    go : (o : Option Abstract) → abstract_of b ≡ o → o ≡ none
    go none e = refl
    go (some a) e = absurd (no_code far a (code_of e))

type-number-first : {s w : List ℕ} {at next x : ℕ} → Signed 33 w (plus x) → Between s at w next → (b : ℕ) × (get_elem? s at ≡ some b) × ((b < 64) ⊎ (128 ≤ b))
type-number-first (a_numeral (not_negative (last_seven low) positive) short small least) (byte {b = b} there rest) = (b, there, inl positive)
type-number-first (a_numeral (not_negative (seven_more high more) positive) short small least) (byte {b = b} there rest) = (b, there, inr high)

numbered : {s : List ℕ} {at : ℕ} (w : Whole) {end next : ℕ} {h : Heap} → Found (Anywhere (Signed 33)) AnySize s at w end → type_number at w end ≡ got h next → Found (Anywhere WritesHeap) AnySize s at h next
numbered (minus x) n e = absurd (refused_is_not_got e)
numbered (plus x) n e = found_got e (record { bytes = n.bytes; lies = n.lies; writes = is_type_number n.writes; small = tt })

heap_found : (s : List ℕ) (at : ℕ) {h : Heap} {next : ℕ} → heap_at s at ≡ got h next → Found (Anywhere WritesHeap) AnySize s at h next
unfolding heap_at
heap_found s at e =
    let (b, there, f) = byte_got s at _ e in
    by_cond (eqb b 0x62)
    (λ same g. coded (unsigned_reads 32) 0x62 exact (λ w x n. exact_type n) (λ x any. tt) there same g)
    (λ other g.
    by_given (abstract_of b)
    (λ a named k. found_got k (record { bytes = (row a).code ∷ []; lies = this_byte there (code_of named) nothing; writes = abstract_code_lem; small = tt }))
    (λ unnamed k. let (w, end, read, l) = then_got (s33 s at) (type_number at) k in numbered w ((signed_reads 33).sound s at read) l)
    g)
    f

heap_read : {s w : List ℕ} {at next : ℕ} {h : Heap} → Between s at w next → WritesHeap w h → heap_at s at ≡ got h next
unfolding heap_at
heap_read (byte there rest) (exact_type n) = rw (there, (unsigned_reads 32).complete rest n tt)
heap_read (byte there nothing) (abstract_code_lem {a = a}) = rw (there, (code-kept a).not_exact_lem, code-names a)
heap_read stretch (is_type_number n) =
    let (b, there, far) = type-number-first n stretch in
    let (not_exact_lem, not-abstract) = far_from_codes b far in
    rw (there, not_exact_lem, not-abstract, (signed_reads 33).complete stretch n tt)

pub heap_reads : Reads (Anywhere WritesHeap) AnySize heap_at
heap_reads = record { sound = heap_found; complete = λ stretch writes small. heap_read stretch writes }

-- Value types

number_is : (b code : ℕ) {m n : Number} → WritesVal (code ∷ []) (num m) → eqb b code ≡ true → some m ≡ some n → WritesVal (b ∷ []) (num n)
number_is b code {m} {n} writes same e = let p : m ≡ n = cc in rw (eqb-true b code same, ← p) writes

number-written : (b : ℕ) {n : Number} → number_of b ≡ some n → WritesVal (b ∷ []) (num n)
number-written b e =
    by_cond (eqb b 0x7F) (number_is b 0x7F i32_type)
    (λ o₁ e₁. by_cond (eqb b 0x7E) (number_is b 0x7E i64_type)
    (λ o₂ e₂. by_cond (eqb b 0x7D) (number_is b 0x7D f32_type)
    (λ o₃ e₃. by_cond (eqb b 0x7C) (number_is b 0x7C f64_type) (λ o₄ e₄. absurd (none_is_not-some e₄)) e₃) e₂) e₁) e

val_found : (s : List ℕ) (at : ℕ) {v : Val} {next : ℕ} → val_at s at ≡ got v next → Found (Anywhere WritesVal) AnySize s at v next
unfolding val_at
val_found s at e =
    let (b, there, f) = byte_got s at _ e in
    by_given (number_of b)
    (λ n numeric g. found_got g (record { bytes = b ∷ []; lies = byte there nothing; writes = number-written b numeric; small = tt }))
    (λ not-numeric g.
    by_cond (eqb b 0x63)
    (λ null k. coded heap_reads 0x63 (ref (eqb b 0x63)) (λ w h n. rw null (nullable_reference n)) (λ h any. tt) there null k)
    (λ not_null k.
    by_cond (eqb b 0x64)
    (λ same l. coded heap_reads 0x64 (ref (eqb b 0x63)) (λ w h n. rw not_null (reference n)) (λ h any. tt) there same l)
    (λ other l.
    by_given (abstract_of b)
    (λ a named m. found_got m (record { bytes = (row a).code ∷ []; lies = this_byte there (code_of named) nothing; writes = abstract_alone; small = tt }))
    (λ unnamed m. absurd (refused_is_not_got m))
    l)
    k)
    g)
    f

absent_none : {A : Type 0} (o : Option A) → is_none o ≡ true → o ≡ none
absent_none none e = refl
absent_none (some x) e = absurd (false≢true e)

val_read : {s w : List ℕ} {at next : ℕ} {v : Val} → Between s at w next → WritesVal w v → val_at s at ≡ got v next
unfolding val_at
val_read (byte there nothing) i32_type = rw there
val_read (byte there nothing) i64_type = rw there
val_read (byte there nothing) f32_type = rw there
val_read (byte there nothing) f64_type = rw there
val_read (byte there rest) (nullable_reference h) = rw (there, heap_reads.complete rest h tt)
val_read (byte there rest) (reference h) = rw (there, heap_reads.complete rest h tt)
val_read (byte there nothing) (abstract_alone {a = a}) =
    let c = code-kept a in
    rw (there, absent_none (number_of (row a).code) c.not-number, c.not-nullable, c.not_reference, code-names a)
val_read {s = s} {at = at} {v = v} nothing x5 = elim x5 [ ]

pub val_reads : Reads (Anywhere WritesVal) AnySize val_at
val_reads = record { sound = val_found; complete = λ stretch writes small. val_read stretch writes }

-- Fields

flag_found : (s : List ℕ) (at : ℕ) {m : Bool} {next : ℕ} → flag_at s at ≡ got m next → Found (Anywhere WritesFlag) AnySize s at m next
flag_found s at e =
    let (b, there, f) = byte_got s at _ e in
    by_cond (eqb b 0x00)
    (λ same g. found_got g (record { bytes = 0x00 ∷ []; lies = this_byte there (eqb-true b 0x00 same) nothing; writes = fixed_flag; small = tt }))
    (λ other g.
    by_cond (eqb b 0x01)
    (λ same k. found_got k (record { bytes = 0x01 ∷ []; lies = this_byte there (eqb-true b 0x01 same) nothing; writes = mutable_flag; small = tt }))
    (λ neither k. absurd (refused_is_not_got k))
    g)
    f

flag_read : {s w : List ℕ} {at next : ℕ} {m : Bool} → Between s at w next → WritesFlag w m → flag_at s at ≡ got m next
flag_read (byte there nothing) fixed_flag = rw there
flag_read (byte there nothing) mutable_flag = rw there
flag_read {s = s} {at = at} {m = m} nothing x5 = elim x5 [ ]
flag_read {s = s} {at = at} {next = next} {m = m} (byte {b = b} there (byte {w = w} _ _)) x22 = elim x22 [ ]

field_found : (s : List ℕ) (at : ℕ) {f : Field} {next : ℕ} → field_at s at ≡ got f next → Found (Anywhere WritesField) AnySize s at f next
unfolding field_at
field_found s at e =
    let (v, mid, read, f) = then_got (val_at s at) _ e in
    let (m, end, flag, g) = then_got (flag_at s mid) _ f in
    let first = val_found s at read in
    let second = flag_found s mid flag in
    found_got g (record { bytes = first.bytes ++ second.bytes; lies = join first.lies second.lies; writes = a_field first.writes second.writes; small = tt })

field_read : {s w : List ℕ} {at next : ℕ} {f : Field} → Between s at w next → WritesField w f → field_at s at ≡ got f next
unfolding field_at
field_read stretch (a_field {w = w} v m) =
    let (first, second) = split_at w stretch in
    rw (val_read first v, flag_read second m)

pub field_reads : Reads (Anywhere WritesField) AnySize field_at
field_reads = record { sound = field_found; complete = λ stretch writes small. field_read stretch writes }
