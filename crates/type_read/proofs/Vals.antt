-- Each way out of the readers of value types and fields. A reference's code is made of its heap type's; the bounds of codes
-- are those of the kept numbers.
use Prim.Native.Nat.{ℕ, ◌+◌, ◌*◌, ◌≤◌, ◌<◌}
use mathlib.Core.Path.{◌≡◌, refl, sym, ap, ◌∙◌}
use mathlib.Core.Bool.{Bool, true, false, cond}
use mathlib.Core.Option.{Option, none, some}
use mathlib.Core.List.{List}
use native.Mathlib.Omega.{arith}
use lib.ListN.{get_elem?}
use borrow.Author.Tests.{eq-eqb, ne_eqb}
use mir.Syntax.{w64}
use mir.Val.{Fits}
use Rattle.scope.specs.Told.{no_at}
use Rattle.std.specs.Prelude.{Result, Ok, Err}
use Rattle.scope.specs.declared.Refused.{Refused}
use Rattle.scope.specs.Told.{Maybe}
use Rattle.std.specs.Prelude.{None, Some}
use Rattle.scope.specs.Refusals.{bytes_end, not_listed}
use Rattle.scope.specs.Reading.{Read, got, refused}
use Rattle.scope.specs.Abstract.{Abstract, abstract_of}
use Rattle.scope.specs.Syntax.{Heap, Number}
use Rattle.scope.specs.Sections.{heap_at, number_of, val_at}
use Rattle.scope.specs.Order.{number_code}
use Rattle.scope.specs.Memory.{abstract_code}
use Rattle.scope.proofs.Impossible.{impossible}
use Rattle.scope.proofs.Told.{passed, passes, read_refused, value_is, place_is}
use Rattle.number_bytes.specs.Bytes.{ByteAt}
use Rattle.number_bytes.proofs.Laws.{byte_got, byte_none}
use Rattle.type_abstract.specs.Heaps.{abstract_is}
use Rattle.type_abstract.proofs.Laws.{is_inv, not-one_inv, code-small}
use Rattle.type_table.proofs.CodesBack.{heap-code-small}
use Rattle.type_read.specs.Codes.{coded_is, heap_code_kept, val_code_kept, number_is, referent_at, reference_at}

-- an answer, taken apart

pub coded_got : {A : Type 0} (code : A → ℕ) (o : Read A) {r : Result (ℕ × ℕ) Refused} {c next : ℕ} → r ≡ coded_is code o → r ≡ Ok (c, next) → (x : A) × (o ≡ got x next) × (c ≡ code x)
coded_got code (got x n) p q = (x, ap (got x) (place_is p q), sym (value_is p q))
coded_got code (refused n m) p q = impossible cc

pub coded_refused : {A : Type 0} (code : A → ℕ) (o : Read A) {r : Result (ℕ × ℕ) Refused} {no : Refused} → r ≡ coded_is code o → r ≡ Err no → o ≡ refused no.number no.at
coded_refused code (got x m) p q = impossible cc
coded_refused code (refused m k) p q = read_refused p q

-- number_of

module _ {b : ℕ} where
  pub number_i32 : b ≡ 0x7F → Some 0 ≡ number_is (number_of b)
  number_i32 e = rw e

  pub number_i64 : b ≡ 0x7E → Some 1 ≡ number_is (number_of b)
  number_i64 e = rw e

  pub number_f32 : b ≡ 0x7D → Some 2 ≡ number_is (number_of b)
  number_f32 e = rw e

  pub number_f64 : b ≡ 0x7C → Some 3 ≡ number_is (number_of b)
  number_f64 e = rw e

  pub number-none : (b ≡ 0x7F → ⊥) → (b ≡ 0x7E → ⊥) → (b ≡ 0x7D → ⊥) → (b ≡ 0x7C → ⊥) → None ≡ number_is (number_of b)
  number-none p q r t = rw (ne_eqb b 0x7F p, ne_eqb b 0x7E q, ne_eqb b 0x7D r, ne_eqb b 0x7C t)

pub ruleset number_of_exits = (number_i32, number_i64, number_f32, number_f64, number-none)

-- codes are small

pub heap-code_bound : (h : Heap) → heap_code_kept h ≤ 8201
unfolding heap_code_kept
heap-code_bound h = heap-code-small h

pub heap-code_most : (o : Read Heap) {c next : ℕ} → Ok (c, next) ≡ coded_is heap_code_kept o → c ≤ 8201
heap-code_most o p = let (h, e, f) = coded_got heap_code_kept o p refl in let m = heap-code_bound h in omega arith

-- referent_at

module _ (s : List ℕ) (at : ℕ) {c next : ℕ} where
  heap_read : (h : Heap) (n : Bool) → heap_at s at ≡ got h next → c ≡ heap_code_kept h → Ok ((4 + 2 * c + cond n 1 0), next) ≡ coded_is val_code_kept (referent_at n s at)
  unfolding heap_code_kept val_code_kept
  heap_read h n read code = rw (read, code)

  referent_got : (n : Bool) → Ok (c, next) ≡ coded_is heap_code_kept (heap_at s at) → Ok ((4 + 2 * c + cond n 1 0), next) ≡ coded_is val_code_kept (referent_at n s at)
  referent_got n e = let (h, read, code) = coded_got heap_code_kept (heap_at s at) e refl in heap_read h n read code

  pub referent_nullable : {n : Bool} → Ok (c, next) ≡ coded_is heap_code_kept (heap_at s at) → n ≡ true → Ok ((5 + 2 * c), next) ≡ coded_is val_code_kept (referent_at n s at)
  referent_nullable {n} e f =
      let same : 5 + 2 * c ≡ 4 + 2 * c + 1 = omega arith in rw (same, f) (referent_got true e)

  pub referent_not : {n : Bool} → Ok (c, next) ≡ coded_is heap_code_kept (heap_at s at) → n ≡ false → Ok ((4 + 2 * c), next) ≡ coded_is val_code_kept (referent_at n s at)
  referent_not {n} e f =
      let same : 4 + 2 * c ≡ 4 + 2 * c + 0 = omega arith in rw (same, f) (referent_got false e)

pub referent_twice-fits : (o : Read Heap) {c next : ℕ} → Ok (c, next) ≡ coded_is heap_code_kept o → Fits w64 (2 * c)
referent_twice-fits o p = let h = heap-code_most o p in record { fits = omega arith }

pub referent_five-fits : (o : Read Heap) {c next : ℕ} → Ok (c, next) ≡ coded_is heap_code_kept o → Fits w64 (5 + 2 * c)
referent_five-fits o p = let h = heap-code_most o p in record { fits = omega arith }

pub referent_four-fits : (o : Read Heap) {c next : ℕ} → Ok (c, next) ≡ coded_is heap_code_kept o → Fits w64 (4 + 2 * c)
referent_four-fits o p = let h = heap-code_most o p in record { fits = omega arith }

pub ruleset referent_exits = (passed, passes, referent_nullable, referent_not, referent_twice-fits, referent_five-fits, referent_four-fits)

-- reference_at

module _ (b : ℕ) (s : List ℕ) (at next : ℕ) where
  pub reference_nullable : {q : Result (ℕ × ℕ) Refused} → b ≡ 0x63 → q ≡ coded_is val_code_kept (referent_at true s next) → q ≡ coded_is val_code_kept (reference_at b s at next)
  reference_nullable e g = g ∙ sym (rw (eq-eqb b 0x63 e))

  module _ (e : b ≡ 0x63 → ⊥) where
    pub reference_not : {q : Result (ℕ × ℕ) Refused} → b ≡ 0x64 → q ≡ coded_is val_code_kept (referent_at false s next) → q ≡ coded_is val_code_kept (reference_at b s at next)
    reference_not f g = g ∙ sym (rw (ne_eqb b 0x63 e, eq-eqb b 0x64 f))

    module _ (f : b ≡ 0x64 → ⊥) {t : Maybe ℕ} (n : t ≡ abstract_is (abstract_of b)) where
      pub reference_unlisted : t ≡ None → Err (no_at not_listed at) ≡ coded_is val_code_kept (reference_at b s at next)
      reference_unlisted o = rw (ne_eqb b 0x63 e, ne_eqb b 0x64 f, not-one_inv (abstract_of b) n o)

      reference_named : {k : ℕ} (c : Abstract) → abstract_of b ≡ some c → k ≡ abstract_code c → Ok ((5 + 2 * k), next) ≡ coded_is val_code_kept (reference_at b s at next)
      unfolding val_code_kept
      reference_named {k} c named code =
          let same : 5 + 2 * abstract_code c ≡ 4 + 2 * abstract_code c + 1 = omega arith in
          rw (ne_eqb b 0x63 e, ne_eqb b 0x64 f, named, code, same)

      pub reference_abstract : {k : ℕ} → t ≡ Some k → Ok ((5 + 2 * k), next) ≡ coded_is val_code_kept (reference_at b s at next)
      reference_abstract o = let (c, named, code) = is_inv (abstract_of b) n o in reference_named c named code

abstract_code-small : (o : Option Abstract) {t : Maybe ℕ} {k : ℕ} → t ≡ abstract_is o → t ≡ Some k → k < 10
abstract_code-small o p q = let (c, named, code) = is_inv o p q in let h = code-small c in omega arith

pub abstract_twice-fits : (o : Option Abstract) {t : Maybe ℕ} {k : ℕ} → t ≡ abstract_is o → t ≡ Some k → Fits w64 (2 * k)
abstract_twice-fits o p q = let h = abstract_code-small o p q in record { fits = omega arith }

pub abstract_five-fits : (o : Option Abstract) {t : Maybe ℕ} {k : ℕ} → t ≡ abstract_is o → t ≡ Some k → Fits w64 (5 + 2 * k)
abstract_five-fits o p q = let h = abstract_code-small o p q in record { fits = omega arith }

pub ruleset reference_exits = (reference_nullable, reference_not, reference_unlisted, reference_abstract, abstract_twice-fits, abstract_five-fits)

-- val_at

number_is_inv : (o : Option Number) {t : Maybe ℕ} {k : ℕ} → t ≡ number_is o → t ≡ Some k → (n : Number) × (o ≡ some n) × (k ≡ number_code n)
number_is_inv none p q = impossible cc
number_is_inv (some n) p q = (n, refl, cc)

number-none_inv : (o : Option Number) {t : Maybe ℕ} → t ≡ number_is o → t ≡ None → o ≡ none
number-none_inv none p q = refl
number-none_inv (some n) p q = impossible cc

module _ {s : List ℕ} {at : ℕ} {r : Maybe ℕ} (a : ByteAt s at r) where
  pub val_missing : r ≡ None → Err (no_at bytes_end at) ≡ coded_is val_code_kept (val_at s at)
  unfolding val_at
  val_missing e = rw (byte_none (get_elem? s at) a.is e)

  module _ {b : ℕ} (e : r ≡ Some b) {t : Maybe ℕ} (n : t ≡ number_is (number_of b)) where
    pub val_reference : {q : Result (ℕ × ℕ) Refused} → t ≡ None → q ≡ coded_is val_code_kept (reference_at b s at (at + 1)) → q ≡ coded_is val_code_kept (val_at s at)
    unfolding val_at
    val_reference o g = g ∙ sym (rw (byte_got (get_elem? s at) a.is e, number-none_inv (number_of b) n o))

    val_named : {k : ℕ} (c : Number) → number_of b ≡ some c → k ≡ number_code c → Ok (k, (at + 1)) ≡ coded_is val_code_kept (val_at s at)
    unfolding val_at val_code_kept
    val_named c named code = rw (byte_got (get_elem? s at) a.is e, named, code)

    pub val_number : {k : ℕ} → t ≡ Some k → Ok (k, (at + 1)) ≡ coded_is val_code_kept (val_at s at)
    val_number o = let (c, named, code) = number_is_inv (number_of b) n o in val_named c named code

pub ruleset val_exits = (val_missing, val_reference, val_number)
