-- Each way out of the readers of heap types: the bytes that led there make the definition give the same code and place.
use Prim.Native.Nat.{ℕ, ◌+◌, ◌*◌, ◌≤◌, ◌<◌}
use mathlib.Core.Path.{◌≡◌, refl, sym, ◌∙◌}
use mathlib.Core.Option.{some}
use mathlib.Core.List.{List}
use native.Mathlib.Omega.{arith}
use lib.ListN.{get_elem?}
use borrow.Author.Tests.{eq-eqb, ne_eqb}
use mir.Syntax.{w64}
use mir.Val.{Fits}
use Rattle.scope.specs.Told.{no_at}
use Rattle.std.specs.Prelude.{Result, Ok, Err}
use Rattle.scope.specs.declared.Refused.{Refused}
use Rattle.scope.specs.Told.{Maybe}
use Rattle.std.specs.Prelude.{None, Some}
use Rattle.scope.specs.Refusals.{bytes_end, not_listed}
use Rattle.scope.specs.Numbers.{u32, s33}
use Rattle.scope.specs.Abstract.{Abstract, abstract_of}
use Rattle.scope.specs.Sections.{heap_at}
use Rattle.scope.specs.Memory.{abstract_code}
use Rattle.number_values.specs.declared.Integer.{Integer}
use Rattle.number_values.specs.declared.Integer
use Rattle.scope.proofs.Told.{passed, passes}
use Rattle.number_bytes.specs.Bytes.{ByteAt}
use Rattle.number_values.specs.Values.{natural_is, integer_is}
use Rattle.number_bytes.proofs.Laws.{byte_got, byte_none, next_fits}
use Rattle.number_values.proofs.Laws.{natural_got, integer_plus, integer_minus, integer_refused}
use Rattle.type_abstract.specs.Heaps.{abstract_is}
use Rattle.type_abstract.proofs.Laws.{is_inv, not-one_inv}
use Rattle.type_table.specs.Kept.{beyond, kept}
use Rattle.type_read.specs.Codes.{coded_is, heap_code_kept, exact_at, defined_at}

-- kept_number

pub kept_small : {x : ℕ} → x < beyond → x ≡ kept x
kept_small h = omega arith

pub kept-beyond : {x : ℕ} → beyond ≤ x → beyond ≡ kept x
kept-beyond h = omega arith

pub ruleset kept_exits = (kept_small, kept-beyond)

kept_most : (x : ℕ) → kept x ≤ beyond
kept_most x = omega arith

pub kept-code-fits : (x : ℕ) {k : ℕ} → k ≡ kept x → Fits w64 (2 * k)
kept-code-fits x e = let h = kept_most x in record { fits = omega arith }

pub exact_code-fits : (x : ℕ) {k : ℕ} → k ≡ kept x → Fits w64 (11 + 2 * k)
exact_code-fits x e = let h = kept_most x in record { fits = omega arith }

pub defined-code-fits : (x : ℕ) {k : ℕ} → k ≡ kept x → Fits w64 (10 + 2 * k)
defined-code-fits x e = let h = kept_most x in record { fits = omega arith }

-- exact_at

pub exact_got : (s : List ℕ) (at : ℕ) {x next k : ℕ} → Ok (x, next) ≡ natural_is (u32 s at) → k ≡ kept x → Ok (11 + 2 * k, next) ≡ coded_is heap_code_kept (exact_at s at)
unfolding heap_code_kept
exact_got s at e f = rw (natural_got (u32 s at) e refl, f)

-- defined_at

module _ (s : List ℕ) (at : ℕ) {r : Integer} (a : r ≡ integer_is (s33 s at)) where
  pub defined_got : {x next k : ℕ} → r ≡ Integer.TheVariants.Plus x next → k ≡ kept x → Ok ((10 + 2 * k), next) ≡ coded_is heap_code_kept (defined_at s at)
  unfolding heap_code_kept
  defined_got e f = rw (integer_plus (s33 s at) a e, f)

  pub defined-negative : {x next : ℕ} → r ≡ Integer.TheVariants.Minus x next → Err (no_at not_listed at) ≡ coded_is heap_code_kept (defined_at s at)
  defined-negative e = rw (integer_minus (s33 s at) a e)

  pub defined_refused : {no : Refused} → r ≡ Integer.TheVariants.Refused no.number no.at → Err no ≡ coded_is heap_code_kept (defined_at s at)
  defined_refused e = rw (integer_refused (s33 s at) a e)

pub ruleset number_exits = (kept-code-fits, exact_code-fits, defined-code-fits, exact_got, passed, passes, defined_got, defined-negative, defined_refused)

-- heap_at

module _ {s : List ℕ} {at : ℕ} {r : Maybe ℕ} (a : ByteAt s at r) where
  pub heap_missing : r ≡ None → Err (no_at bytes_end at) ≡ coded_is heap_code_kept (heap_at s at)
  unfolding heap_at
  heap_missing e = rw (byte_none (get_elem? s at) a.is e)

  module _ {b : ℕ} (e : r ≡ Some b) where
    pub heap_exact : {q : Result (ℕ × ℕ) Refused} → b ≡ 0x62 → q ≡ coded_is heap_code_kept (exact_at s (at + 1)) → q ≡ coded_is heap_code_kept (heap_at s at)
    unfolding heap_at
    heap_exact f g = g ∙ sym (rw (byte_got (get_elem? s at) a.is e, eq-eqb b 0x62 f))

    module _ (f : b ≡ 0x62 → ⊥) {t : Maybe ℕ} (n : t ≡ abstract_is (abstract_of b)) where
      pub heap-defined : {q : Result (ℕ × ℕ) Refused} → t ≡ None → q ≡ coded_is heap_code_kept (defined_at s at) → q ≡ coded_is heap_code_kept (heap_at s at)
      unfolding heap_at
      heap-defined o g = g ∙ sym (rw (byte_got (get_elem? s at) a.is e, ne_eqb b 0x62 f, not-one_inv (abstract_of b) n o))

      heap-named : {k : ℕ} (c : Abstract) → abstract_of b ≡ some c → k ≡ abstract_code c → Ok (k, (at + 1)) ≡ coded_is heap_code_kept (heap_at s at)
      unfolding heap_at heap_code_kept
      heap-named c named code = rw (byte_got (get_elem? s at) a.is e, ne_eqb b 0x62 f, named, code)

      pub heap_abstract : {k : ℕ} → t ≡ Some k → Ok (k, (at + 1)) ≡ coded_is heap_code_kept (heap_at s at)
      heap_abstract o = let (c, named, code) = is_inv (abstract_of b) n o in heap-named c named code

pub ruleset heap_exits = (next_fits, heap_missing, heap_exact, heap-defined, heap_abstract)
