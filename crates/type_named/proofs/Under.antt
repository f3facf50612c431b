-- Each way out is a case of the order's test: of x and of exact x, by what the upper heap type was read as.
use Prim.Native.Nat.{ℕ}
use mathlib.Core.Path.{◌≡◌, refl, sym, ◌∙◌}
use mathlib.Core.Bool.{Bool, true, false}
use lib.Dec.{eqb}
use Rattle.scope.specs.Sizes.{most_steps}
use Rattle.scope.specs.Abstract.{Abstract}
use Rattle.scope.specs.Syntax.{Heap, abstract, defined, Types}
use Rattle.scope.specs.Order.{kind_of, abstract_below, climbs, heap_below}
use Rattle.type_abstract.specs.Heaps.{abstract_at}
use Rattle.type_table.specs.declared.HeapKind.{HeapKind}
use Rattle.type_table.specs.declared.HeapKind
use Rattle.type_table.specs.Answers.{heap_is}
use Rattle.type_table.proofs.Laws.{is_abstract, is_defined, is_exact}
use Rattle.type_named.specs.Named.{named}

-- the upper heap type was read

module _ (ts : Types) (h : Heap) {u : HeapKind} (e : u ≡ heap_is h) where
  module _ (exactly : Bool) (x : ℕ) where
    named_abstract : (t : Bool) (k : Abstract) → heap_below ts (named t x) (abstract k) ≡ abstract_below (kind_of (ts x).form) k
    unfolding heap_below
    named_abstract true k = refl
    named_abstract false k = refl

    named-defined : (t : Bool) (y : ℕ) → heap_below ts (named t x) (defined y) ≡ climbs most_steps ts x y
    unfolding heap_below
    named-defined true y = refl
    named-defined false y = refl

    pub named-under_abstract : {k : ℕ} {r : Bool} → u ≡ HeapKind.TheVariants.Abstract k → r ≡ abstract_below (kind_of (ts x).form) (abstract_at k) → r ≡ heap_below ts (named exactly x) h
    named-under_abstract {k} q p = rw (is_abstract h e q) (p ∙ sym (named_abstract exactly (abstract_at k)))

    pub named-under-defined : {y : ℕ} {r : Bool} → u ≡ HeapKind.TheVariants.Defined y → r ≡ climbs most_steps ts x y → r ≡ heap_below ts (named exactly x) h
    named-under-defined {y} q p = rw (is_defined h e q) (p ∙ sym (named-defined exactly y))

    pub exact_under_exact : {y : ℕ} → u ≡ HeapKind.TheVariants.Exact y → exactly ≡ true → eqb x y ≡ heap_below ts (named exactly x) h
    unfolding heap_below
    exact_under_exact q t = rw (is_exact h e q, t)

    pub defined-under_exact : {y : ℕ} → u ≡ HeapKind.TheVariants.Exact y → exactly ≡ false → false ≡ heap_below ts (named exactly x) h
    unfolding heap_below
    defined-under_exact q t = rw (is_exact h e q, t)

pub ruleset named_exits = (named-under_abstract, named-under-defined, exact_under_exact, defined-under_exact)
