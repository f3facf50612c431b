-- What a caller learns from an answer of this crate: what the table or a code says; and each way out of the functions
-- that read a code.
use Prim.Native.Nat.{ℕ, zero, suc, ◌+◌, ◌-◌, ◌/◌, ◌%◌, ◌≤◌, ◌<◌}
use mathlib.Core.Path.{◌≡◌, refl, sym, ap, ◌∙◌}
use mathlib.Core.Bool.{Bool}
use mathlib.Core.Option.{Option, none, some}
use mathlib.Core.List.{List, [], ◌∷◌}
use native.Mathlib.Numerals.{sub-one}
use native.Mathlib.Omega.{arith}
use lib.Dec.{eqb}
use Rattle.scope.specs.Told.{Maybe}
use Rattle.std.specs.Prelude.{None, Some}
use Rattle.scope.specs.Syntax.{Heap, abstract, defined, exact, Number, Val, num, ref}
use Rattle.scope.specs.Order.{number_code}
use Rattle.scope.proofs.Impossible.{impossible}
use Rattle.type_abstract.specs.Heaps.{abstract_at}
use Rattle.type_abstract.proofs.Laws.{at_code, code_at}
use Rattle.lent_u16.specs.Words.{WordAt}
use Rattle.type_table.specs.View.{heap_at_code, val_at_code, codes_at}
use Rattle.type_table.specs.declared.HeapKind.{HeapKind}
use Rattle.type_table.specs.declared.HeapKind
use Rattle.type_table.specs.declared.ValKind.{ValKind}
use Rattle.type_table.specs.declared.ValKind
use Rattle.type_table.specs.Answers.{link_is, link_option, heap_is, val_is}
use Rattle.type_table.proofs.Codes.{heap_abstract, heap_exact, heap-defined, val_number, val_ref, heap-code-at, val_code-at, heap-at-code}

-- a link, taken apart

pub link_nothing : (o : Option ℕ) {r : Maybe ℕ} → r ≡ link_is o → r ≡ None → o ≡ none
link_nothing none p q = refl
link_nothing (some x) p q = impossible cc

pub link_to : (o : Option ℕ) {r : Maybe ℕ} {x : ℕ} → r ≡ link_is o → r ≡ Some x → o ≡ some x
link_to none p q = impossible cc
link_to (some y) p q = cc

pub link_read : (o : Option ℕ) {r : Maybe ℕ} → r ≡ link_is o → link_option r ≡ o
link_read none p = ap link_option p
link_read (some x) p = ap link_option p

-- a heap type's answer, taken apart

pub is_abstract : (h : Heap) {r : HeapKind} {k : ℕ} → r ≡ heap_is h → r ≡ HeapKind.TheVariants.Abstract k → h ≡ abstract (abstract_at k)
is_abstract (abstract a) p q = ap abstract (sym (at_code a)) ∙ ap (λ (n : ℕ). abstract (abstract_at n)) (cc)
is_abstract (defined x) p q = impossible cc
is_abstract (exact x) p q = impossible cc

pub is_defined : (h : Heap) {r : HeapKind} {x : ℕ} → r ≡ heap_is h → r ≡ HeapKind.TheVariants.Defined x → h ≡ defined x
is_defined (abstract a) p q = impossible cc
is_defined (defined y) p q = cc
is_defined (exact y) p q = impossible cc

pub is_exact : (h : Heap) {r : HeapKind} {x : ℕ} → r ≡ heap_is h → r ≡ HeapKind.TheVariants.Exact x → h ≡ exact x
is_exact (abstract a) p q = impossible cc
is_exact (defined y) p q = impossible cc
is_exact (exact y) p q = cc

-- a value type's answer, taken apart

pub is_number : (v : Val) {r : ValKind} {c : ℕ} → r ≡ val_is v → r ≡ ValKind.TheVariants.Number c → (n : Number) × (v ≡ num n) × (c ≡ number_code n)
is_number (num n) p q = (n, refl, cc)
is_number (ref n h) p q = impossible cc

pub is_ref : (v : Val) {r : ValKind} {n : Bool} {c : ℕ} → r ≡ val_is v → r ≡ ValKind.TheVariants.Ref n c → v ≡ ref n (heap_at_code c)
is_ref (num n) p q = impossible cc
is_ref (ref m h) p q = ap (ref m) (sym (heap-at-code h)) ∙ cc

-- codes in a row, one taken off the front

pub no-codes : {A : Type 0} (f : ℕ → A) (codes : List ℕ) (at n : ℕ) → n ≤ 0 → codes_at f codes at n ≡ []
unfolding codes_at
no-codes f codes at zero h = refl
no-codes f codes at (suc n) h = absurd (omega arith)

pub first_code : {A : Type 0} (f : ℕ → A) (codes : List ℕ) (at n : ℕ) {w : ℕ} → 0 < n → WordAt codes at w → codes_at f codes at n ≡ f w ∷ codes_at f codes (at + 1) (n - 1)
unfolding codes_at
first_code f codes at zero h a = absurd (omega arith)
first_code f codes at (suc n) h a = rw (a.is, sub-one (suc n))

-- the ways out of heap_of and val_of

pub heap_of_abstract : {c : ℕ} → c < 10 → HeapKind.TheVariants.Abstract c ≡ heap_is (heap_at_code c)
heap_of_abstract {c} h = rw (heap_abstract h, code_at c h)

pub heap_of_exact : {c : ℕ} → 10 ≤ c → c % 2 ≡ 1 → HeapKind.TheVariants.Exact ((c - 10) / 2) ≡ heap_is (heap_at_code c)
heap_of_exact {c} h o = rw (heap_exact h o)

pub heap_of_defined : {c : ℕ} → 10 ≤ c → (c % 2 ≡ 1 → ⊥) → HeapKind.TheVariants.Defined ((c - 10) / 2) ≡ heap_is (heap_at_code c)
heap_of_defined {c} h o = rw (heap-defined h o)

pub val_of_number : {c : ℕ} → c < 4 → ValKind.TheVariants.Number c ≡ val_is (val_at_code c)
val_of_number {c} h = let e = val_code-at c in let e' = rw (val_number h) at e in rw (val_number h, e')

pub val_of_ref : {c : ℕ} → 4 ≤ c → ValKind.TheVariants.Ref (eqb (c % 2) 1) ((c - 4) / 2) ≡ val_is (val_at_code c)
val_of_ref {c} h = rw (val_ref h, heap-code-at ((c - 4) / 2))

pub ruleset code_exits = (heap_of_abstract, heap_of_exact, heap_of_defined, val_of_number, val_of_ref)
