-- Each type has one code and each code is one type's: what a code is read as has that code again, and the other way. A
-- code of a type number is even or odd as its type is exact or not, and half of it is the number.
use Prim.Native.Nat.{ℕ, ◌+◌, ◌-◌, ◌*◌, ◌/◌, ◌%◌, ◌≤◌, ◌<◌}
use mathlib.Core.Path.{◌≡◌, sym, ap, ◌∙◌}
use mathlib.Core.Logic.{◌⊎◌, inl, inr}
use mathlib.Core.Bool.{true, false}
use native.Mathlib.Omega.{arith}
use borrow.Author.Tests.{lt-ltb, le-ltb, eq-eqb, ne_eqb, ltb-true, ltb-false, eqb-true, eqb-false}
use lib.Dec.{eqb, ltb}
use Rattle.scope.specs.Syntax.{Heap, abstract, defined, exact, num, ref}
use Rattle.scope.specs.Order.{number_code}
use Rattle.scope.specs.Memory.{flag, heap_code, val_code}
use Rattle.scope.proofs.Truths.{decided}
use Rattle.type_abstract.specs.Heaps.{abstract_at}
use Rattle.type_abstract.proofs.Laws.{code-small, at_code, code_at}
use Rattle.type_table.specs.View.{is_odd, number_at, heap_at_code, val_at_code}

-- a code, read

pub heap_abstract : {c : ℕ} → c < 10 → heap_at_code c ≡ abstract (abstract_at c)
unfolding heap_at_code
heap_abstract {c} h = rw (lt-ltb c 10 h)

pub heap_exact : {c : ℕ} → 10 ≤ c → c % 2 ≡ 1 → heap_at_code c ≡ exact ((c - 10) / 2)
unfolding heap_at_code
heap_exact {c} h o = rw (le-ltb c 10 h, eq-eqb (c % 2) 1 o)

pub heap-defined : {c : ℕ} → 10 ≤ c → (c % 2 ≡ 1 → ⊥) → heap_at_code c ≡ defined ((c - 10) / 2)
unfolding heap_at_code
heap-defined {c} h o = rw (le-ltb c 10 h, ne_eqb (c % 2) 1 o)

pub val_number : {c : ℕ} → c < 4 → val_at_code c ≡ num (number_at c)
unfolding val_at_code
val_number {c} h = rw (lt-ltb c 4 h)

pub val_ref : {c : ℕ} → 4 ≤ c → val_at_code c ≡ ref (is_odd c) (heap_at_code ((c - 4) / 2))
unfolding val_at_code
val_ref {c} h = rw (le-ltb c 4 h)

-- from a code to a type and back

pub heap-code-at : (c : ℕ) → heap_code (heap_at_code c) ≡ c
heap-code-at c = go (decided (ltb c 10)) (decided (is_odd c))
  where
    go : (ltb c 10 ≡ true) ⊎ (ltb c 10 ≡ false) → (is_odd c ≡ true) ⊎ (is_odd c ≡ false) → heap_code (heap_at_code c) ≡ c
    go (inl small) odd = let h : c < 10 = ltb-true c 10 small in rw (heap_abstract h, code_at c h)
    go (inr large) (inl odd) =
        let h : 10 ≤ c = ltb-false c 10 large in let o : c % 2 ≡ 1 = eqb-true (c % 2) 1 odd in rw (heap_exact h o) (omega arith)
    go (inr large) (inr even) =
        let h : 10 ≤ c = ltb-false c 10 large in
        let o : c % 2 ≡ 1 → ⊥ = eqb-false (c % 2) 1 even in
        rw (heap-defined h o) (omega arith)

number-code-at : (c : ℕ) → c < 4 → number_code (number_at c) ≡ c
number-code-at c h = go (decided (eqb c 0)) (decided (eqb c 1)) (decided (eqb c 2))
  where
    go : (eqb c 0 ≡ true) ⊎ (eqb c 0 ≡ false) → (eqb c 1 ≡ true) ⊎ (eqb c 1 ≡ false) → (eqb c 2 ≡ true) ⊎ (eqb c 2 ≡ false) → number_code (number_at c) ≡ c
    go (inl a) q r = rw a (sym (eqb-true c 0 a))
    go (inr a) (inl b) r = rw (a, b) (sym (eqb-true c 1 b))
    go (inr a) (inr b) (inl d) = rw (a, b, d) (sym (eqb-true c 2 d))
    go (inr a) (inr b) (inr d) =
        let x = eqb-false c 0 a in let y = eqb-false c 1 b in let z = eqb-false c 2 d in rw (a, b, d) (omega arith)

flag_odd : (c : ℕ) → flag (is_odd c) ≡ c % 2
flag_odd c = go (decided (is_odd c))
  where
    go : (is_odd c ≡ true) ⊎ (is_odd c ≡ false) → flag (is_odd c) ≡ c % 2
    go (inl odd) = rw odd (sym (eqb-true (c % 2) 1 odd))
    go (inr even) = let o = eqb-false (c % 2) 1 even in rw even (omega arith)

pub val_code-at : (c : ℕ) → val_code (val_at_code c) ≡ c
val_code-at c = go (decided (ltb c 4))
  where
    go : (ltb c 4 ≡ true) ⊎ (ltb c 4 ≡ false) → val_code (val_at_code c) ≡ c
    go (inl small) = let h : c < 4 = ltb-true c 4 small in rw (val_number h) (number-code-at c h)
    go (inr large) =
        let h : 4 ≤ c = ltb-false c 4 large in rw (val_ref h, heap-code-at ((c - 4) / 2), flag_odd c) (omega arith)

-- from a type to its code and back

pub heap-at-code : (h : Heap) → heap_at_code (heap_code h) ≡ h
heap-at-code (abstract a) = heap_abstract (code-small a) ∙ ap abstract (at_code a)
heap-at-code (defined x) =
    let half : (10 + 2 * x - 10) / 2 ≡ x = omega arith in
    heap-defined (omega arith) (λ o. omega arith) ∙ ap defined half
heap-at-code (exact x) =
    let half : (11 + 2 * x - 10) / 2 ≡ x = omega arith in
    heap_exact (omega arith) (omega arith) ∙ ap exact half
