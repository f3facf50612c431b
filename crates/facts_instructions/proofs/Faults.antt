-- A reader's refusal, taken apart: the first of its items that is refused, all before it having been read where a writing of them
-- lies; and back, each fault is what the reader says.
use Prim.Native.Nat.{ℕ, ◌+◌, ◌≤◌, ◌<◌}
use native.Mathlib.Omega.{arith}
use mathlib.Core.Path.{◌≡◌, refl, sym, ◌∙◌, ap}
use mathlib.Core.Logic.{◌⊎◌, inl, inr, ◌↔◌}
use mathlib.Core.Bool.{Bool, true, false, cond}
use mathlib.Core.Option.{Option, none, some}
use mathlib.Core.List.{List, [], ◌∷◌}
use lib.ListN.{length, get_elem?}
use lib.Dec.{eqb, ltb}
use borrow.Author.Tests.{eqb-true, eqb-false, ne_eqb, ltb-true, ltb-false, lt-ltb, le-ltb}
use Rattle.scope.specs.Refusals.{bytes_end, bad_number, not_listed, padded}
use Rattle.scope.specs.Reading.{Read, got, refused, Reader, given, then, on_byte}
use Rattle.scope.specs.Numbers.{Whole, plus, minus, greatest_length, unsigned, signed, u32, s33}
use Rattle.scope.specs.Abstract.{Abstract, row, abstract_of}
use Rattle.scope.specs.Syntax.{Heap, Val}
use Rattle.scope.specs.Sections.{number_of, type_number, heap_at, val_at}
use Rattle.scope.specs.Instructions.{Cast, block_type_at, cast_at}
use Rattle.scope.proofs.Impossible.{contradiction}
use Rattle.scope.proofs.Truths.{none_is_not-some}
use Rattle.scope.proofs.TenRows.{code-names}
use Rattle.facts_sections.specs.Writing.{Sevens, Twos, NaturalRange, WholeRange}
use Rattle.facts_sections.specs.NumberFaults.{NumberFaults, GoOn, OutOfRange}
use Rattle.facts_sections.proofs.Readers.{by_cond, by_given}
use Rattle.facts_sections.proofs.NumberReading.{unsigned_reads, signed_reads}
use Rattle.facts_sections.proofs.NumberFaults.{every-number}
use Rattle.facts_sections.proofs.ValueReading.{code_of, heap_reads}
use Rattle.facts_instructions.specs.Faults.{NumberFault, cut_short, goes_on_and_on, not_in_range, byte_to_spare, UnsignedFault, SignedFault, Numbered, HeapFault, heap_missing, exact_number, type_number_fault, negative_type, ValFault, val_missing, nullable_heap, non_null_heap, val_not_listed, BlockTypeFault, block_type_fault, CastFault, flags_missing, flags_not_listed, label_fault, source_fault, target_fault, FaultsAre, ItemFaults}

-- refusals, taken apart

pub got_is_not_refused : {A : Type 0} {n p next : ℕ} {x : A} → got x next ≡ refused n p → ⊥
got_is_not_refused e = contradiction cc

module _ {A : Type 0} {n p k q : ℕ} where
  same_number_lem : ◌≡◌ {A = Read A} (refused n p) (refused k q) → n ≡ k
  same_number_lem e = cc

  same_place : ◌≡◌ {A = Read A} (refused n p) (refused k q) → p ≡ q
  same_place e = cc

pub told_as : (F : ℕ → ℕ → Type 0) {A : Type 0} {n p k q : ℕ} → ◌≡◌ {A = Read A} (refused n p) (refused k q) → F n p → F k q
told_as F {A} e f = rw (← same_number_lem {A = A} e, ← same_place {A = A} e) f

pub by_then : {A B C : Type 0} (r : Read A) (f : A → ℕ → Read B) {n p : ℕ} → (r ≡ refused n p → C) → ((x : A) (next : ℕ) → r ≡ got x next → f x next ≡ refused n p → C) → then r f ≡ refused n p → C
by_then (got x next) f no' yes' e = yes' x next refl e
by_then {A} {B} (refused k q) f no' yes' e = no' (ap_refused (same_number_lem {A = B} e) (same_place {A = B} e))
  where
    ap_refused : {k q n p : ℕ} → k ≡ n → q ≡ p → ◌≡◌ {A = Read A} (refused k q) (refused n p)
    ap_refused a b = rw (a, b)

pub by_byte : {A C : Type 0} (s : List ℕ) (at : ℕ) (f : ℕ → Read A) {n p : ℕ} → (get_elem? s at ≡ none → ◌≡◌ {A = Read A} (refused bytes_end at) (refused n p) → C)
    → ((b : ℕ) → get_elem? s at ≡ some b → f b ≡ refused n p → C) → on_byte s at f ≡ refused n p → C
by_byte s at f missing there e = by_given (get_elem? s at) there missing e

-- numbers

module _ {A : Type 0} {W : List ℕ → A → Type 0} {Range : ℕ → A → Type 0} {read : ℕ → Reader A} (faults : NumberFaults W Range read) where
  pub number-no : (width : ℕ) (s : List ℕ) (at : ℕ) {n p : ℕ} → read width s at ≡ refused n p → NumberFault W Range width s at n p
  number-no width s at {n} {p} e = let (place, which) = faults.only width s at n p e in go place which e
    where
      bad : (GoOn s at (greatest_length width)) ⊎ (OutOfRange W Range width s at) → NumberFault W Range width s at bad_number at
      bad (inl on) = goes_on_and_on on
      bad (inr out) = not_in_range out

      go : {n p : ℕ} → p ≡ at → (n ≡ bytes_end) ⊎ ((n ≡ bad_number) ⊎ (n ≡ padded)) → read width s at ≡ refused n p → NumberFault W Range width s at n p
      go a (inl b) e = rw (a, b) (cut_short ((faults.ends width s at).0 (rw (a, b) at e)))
      go a (inr (inl b)) e = rw (a, b) (bad ((faults.bad width s at).0 (rw (a, b) at e)))
      go a (inr (inr b)) e = rw (a, b) (byte_to_spare ((faults.spare width s at).0 (rw (a, b) at e)))

  pub no_number : {width : ℕ} {s : List ℕ} {at n p : ℕ} → NumberFault W Range width s at n p → read width s at ≡ refused n p
  no_number {width} {s} {at} (cut_short e) = (faults.ends width s at).1 e
  no_number {width} {s} {at} (goes_on_and_on g) = (faults.bad width s at).1 (inl g)
  no_number {width} {s} {at} (not_in_range o) = (faults.bad width s at).1 (inr o)
  no_number {width} {s} {at} (byte_to_spare h) = (faults.spare width s at).1 h

-- heap types

no_code : {b : ℕ} → abstract_of b ≡ none → (a : Abstract) → ¬ (b ≡ (row a).code)
no_code e a q = none_is_not-some (sym e ∙ ap abstract_of q ∙ code-names a)

code-none : (b : ℕ) → ((a : Abstract) → ¬ (b ≡ (row a).code)) → abstract_of b ≡ none
code-none b other = go (abstract_of b) refl
  where
    go : (o : Option Abstract) → abstract_of b ≡ o → o ≡ none
    go none e = refl
    go (some a) e = absurd (other a (code_of e))

pub heap-no : (s : List ℕ) (at : ℕ) {n p : ℕ} → heap_at s at ≡ refused n p → HeapFault s at n p
unfolding heap_at
heap-no s at {n} {p} e =
    by_byte s at _ (λ absent f. told_as (HeapFault s at) f (heap_missing absent))
    (λ b there f.
    by_cond (eqb b 0x62)
    (λ same g.
    by_then (u32 s (at + 1)) _ (λ bad. exact_number (there ∙ ap some (eqb-true b 0x62 same)) (number-no every-number.naturals 32 s (at + 1) bad))
    (λ x next read h. absurd (got_is_not_refused h)) g)
    (λ other g.
    by_given (abstract_of b) (λ a named h. absurd (got_is_not_refused h))
    (λ unnamed h.
    let numbered : Numbered b = record { not_exact = eqb-false b 0x62 other; not_abstract = no_code unnamed } in
    by_then (s33 s at) (type_number at) (λ bad. type_number_fault there numbered (number-no every-number.wholes 33 s at bad))
    (λ w next read i. negative b there numbered w next read i) h)
    g)
    f)
    e
  where
    negative : (b : ℕ) → get_elem? s at ≡ some b → Numbered b → (w : Whole) (next : ℕ) → s33 s at ≡ got w next → type_number at w next ≡ refused n p → HeapFault s at n p
    negative b there numbered (plus x) next read i = absurd (got_is_not_refused i)
    negative b there numbered (minus v) next read i =
        let f = (signed_reads 33).sound s at read in
        told_as (HeapFault s at) {A = Heap} i (negative_type there numbered f.lies f.writes)

pub no-heap : {s : List ℕ} {at n p : ℕ} → HeapFault s at n p → heap_at s at ≡ refused n p
unfolding heap_at
no-heap (heap_missing e) = rw e
no-heap (exact_number there f) = rw (there, no_number every-number.naturals f)
no-heap (type_number_fault {b = b} there numbered f) =
    rw (there, ne_eqb b 0x62 numbered.not_exact, code-none b numbered.not_abstract, no_number every-number.wholes f)
no-heap (negative_type {b = b} there numbered lies w) =
    rw (there, ne_eqb b 0x62 numbered.not_exact, code-none b numbered.not_abstract, (signed_reads 33).complete lies w tt)

-- value types

val_no : (s : List ℕ) (at : ℕ) {n p : ℕ} → val_at s at ≡ refused n p → ValFault s at n p
unfolding val_at
val_no s at e =
    by_byte s at _ (λ absent f. told_as (ValFault s at) f (val_missing absent))
    (λ b there f.
    by_given (number_of b) (λ k named g. absurd (got_is_not_refused g))
    (λ unnumbered g.
    by_cond (eqb b 0x63)
    (λ same h.
    by_then (heap_at s (at + 1)) _ (λ bad. nullable_heap (there ∙ ap some (eqb-true b 0x63 same)) (heap-no s (at + 1) bad)) (λ x next read i. absurd (got_is_not_refused i)) h)
    (λ not-63 h.
    by_cond (eqb b 0x64)
    (λ same i.
    by_then (heap_at s (at + 1)) _ (λ bad. non_null_heap (there ∙ ap some (eqb-true b 0x64 same)) (heap-no s (at + 1) bad)) (λ x next read j. absurd (got_is_not_refused j)) i)
    (λ not-64 i.
    by_given (abstract_of b) (λ a named j. absurd (got_is_not_refused j))
    (λ unnamed j.
    told_as (ValFault s at) j
    (val_not_listed there (λ q. none_is_not-some (sym unnumbered ∙ ap number_of q)) (λ q. none_is_not-some (sym unnumbered ∙ ap number_of q))
    (λ q. none_is_not-some (sym unnumbered ∙ ap number_of q)) (λ q. none_is_not-some (sym unnumbered ∙ ap number_of q))
    (eqb-false b 0x63 not-63) (eqb-false b 0x64 not-64) (no_code unnamed)))
    i)
    h)
    g)
    f)
    e

no_val : {s : List ℕ} {at n p : ℕ} → ValFault s at n p → val_at s at ≡ refused n p
unfolding val_at
no_val (val_missing e) = rw e
no_val (nullable_heap there f) = rw (there, no-heap f)
no_val (non_null_heap there f) = rw (there, no-heap f)
no_val (val_not_listed {b = b} there a c d e f g h) =
    rw (there, ne_eqb b 0x7F a, ne_eqb b 0x7E c, ne_eqb b 0x7D d, ne_eqb b 0x7C e, ne_eqb b 0x63 f, ne_eqb b 0x64 g, code-none b h)

-- blocks' types

same_some : {a b : ℕ} → some a ≡ some b → a ≡ b
same_some e = cc

pub block_no : (s : List ℕ) (at : ℕ) {n p : ℕ} → block_type_at s at ≡ refused n p → BlockTypeFault s at n p
unfolding block_type_at
block_no s at e =
    by_byte s at _ (λ absent f. told_as (BlockTypeFault s at) f (block_type_fault (λ q. none_is_not-some (sym absent ∙ q)) (val_missing absent)))
    (λ b there f.
    by_cond (eqb b 0x40) (λ same g. absurd (got_is_not_refused g))
    (λ other g.
    by_then (val_at s at) _ (λ bad. block_type_fault (λ q. eqb-false b 0x40 other (same_some (sym there ∙ q))) (val_no s at bad)) (λ x next read h. absurd (got_is_not_refused h)) g)
    f)
    e

pub no_block : {s : List ℕ} {at n p : ℕ} → BlockTypeFault s at n p → block_type_at s at ≡ refused n p
unfolding block_type_at val_at
no_block {s} {at} {n} {p} (block_type_fault other v) = go (get_elem? s at) refl (no_val v)
  where
    value_first : Option ℕ → Read (List Val)
    value_first o = given o (refused bytes_end at) (λ b. cond (eqb b 0x40) (got [] (at + 1)) (then (val_at s at) (λ v next. got (v ∷ []) next)))

    go : (o : Option ℕ) → get_elem? s at ≡ o → val_at s at ≡ refused n p → value_first o ≡ refused n p
    go none e f =
        let missing : val_at s at ≡ refused bytes_end at = rw e in
        let same : ◌≡◌ {A = Read Val} (refused bytes_end at) (refused n p) = sym missing ∙ f in
        rw (same_number_lem {A = Val} same, same_place {A = Val} same)
    go (some b) e f = rw (ne_eqb b 0x40 (λ q. other (e ∙ ap some q)), f)

-- casts

pub cast_no : (s : List ℕ) (at : ℕ) {n p : ℕ} → cast_at s at ≡ refused n p → CastFault s at n p
unfolding cast_at
cast_no s at e =
    by_byte s at _ (λ absent f. told_as (CastFault s at) f (flags_missing absent))
    (λ b there f.
    by_cond (ltb b 4)
    (λ few g.
    by_then (u32 s (at + 1)) _ (λ bad. label_fault there (ltb-true b 4 few) (number-no every-number.naturals 32 s (at + 1) bad))
    (λ l next label h.
    let m = (unsigned_reads 32).sound s (at + 1) label in
    by_then (heap_at s next) _ (λ bad. source_fault there (ltb-true b 4 few) m.lies m.writes (heap-no s next bad))
    (λ source after first i.
    let o = heap_reads.sound s next first in
    by_then (heap_at s after) _ (λ bad. target_fault there (ltb-true b 4 few) m.lies m.writes o.lies o.writes (heap-no s after bad))
    (λ target stop second j. absurd (got_is_not_refused j)) i)
    h)
    g)
    (λ many g. told_as (CastFault s at) g (flags_not_listed there (ltb-false b 4 many)))
    f)
    e

pub no_cast : {s : List ℕ} {at n p : ℕ} → CastFault s at n p → cast_at s at ≡ refused n p
unfolding cast_at
no_cast (flags_missing e) = rw e
no_cast (flags_not_listed {b = b} there many) = rw (there, le-ltb b 4 many)
no_cast (label_fault {b = b} there few f) = rw (there, lt-ltb b 4 few, no_number every-number.naturals f)
no_cast (source_fault {b = b} there few lies l f) = rw (there, lt-ltb b 4 few, (unsigned_reads 32).complete lies l tt, no-heap f)
no_cast (target_fault {b = b} there few lies l more h f) = rw (there, lt-ltb b 4 few, (unsigned_reads 32).complete lies l tt, heap_reads.complete more h tt, no-heap f)

pub item_faults : ItemFaults
item_faults =
    record {
      naturals = λ width. record { exactly = λ s at n p. (number-no every-number.naturals width s at, no_number every-number.naturals) };
      wholes = λ width. record { exactly = λ s at n p. (number-no every-number.wholes width s at, no_number every-number.wholes) };
      heaps = record { exactly = λ s at n p. (heap-no s at, no-heap) };
      values = record { exactly = λ s at n p. (val_no s at, no_val) };
      block_types = record { exactly = λ s at n p. (block_no s at, no_block) };
      casts = record { exactly = λ s at n p. (cast_no s at, no_cast) };
    }
