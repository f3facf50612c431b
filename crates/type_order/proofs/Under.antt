-- Each way out of a comparison is a case of the order's test: the codes were read as the heap types that the test goes by.
use Prim.Native.Nat.{ℕ}
use mathlib.Core.Path.{◌≡◌}
use mathlib.Core.Bool.{Bool, true, false}
use Rattle.scope.specs.Abstract.{same_abstract}
use Rattle.scope.specs.Syntax.{Heap, abstract, Types}
use Rattle.scope.specs.Order.{bottom_of, abstract_below, heap_below}
use Rattle.type_abstract.specs.Heaps.{abstract_at}
use Rattle.type_table.specs.declared.HeapKind.{HeapKind}
use Rattle.type_table.specs.declared.HeapKind
use Rattle.type_table.specs.Answers.{heap_is}
use Rattle.type_table.proofs.Laws.{is_abstract, is_defined, is_exact}
use Rattle.type_named.specs.Named.{named}

-- heap types: the upper one was read

module _ (ts : Types) (h : Heap) {u : HeapKind} (e : u ≡ heap_is h) where
  module _ (a : ℕ) where
    pub abstract_under_abstract : {k : ℕ} {r : Bool} → u ≡ HeapKind.TheVariants.Abstract k → r ≡ abstract_below (abstract_at a) (abstract_at k) → r ≡ heap_below ts (abstract (abstract_at a)) h
    unfolding heap_below
    abstract_under_abstract q p = rw (is_abstract h e q) p

    pub abstract_under-defined : {y : ℕ} {r : Bool} → u ≡ HeapKind.TheVariants.Defined y → r ≡ same_abstract (abstract_at a) (bottom_of (ts y).form) → r ≡ heap_below ts (abstract (abstract_at a)) h
    unfolding heap_below
    abstract_under-defined q p = rw (is_defined h e q) p

    pub abstract_under_exact : {y : ℕ} {r : Bool} → u ≡ HeapKind.TheVariants.Exact y → r ≡ same_abstract (abstract_at a) (bottom_of (ts y).form) → r ≡ heap_below ts (abstract (abstract_at a)) h
    unfolding heap_below
    abstract_under_exact q p = rw (is_exact h e q) p

pub ruleset under_exits = (abstract_under_abstract, abstract_under-defined, abstract_under_exact)

-- heap types: the lower one was read

module _ (ts : Types) (h k : Heap) {l : HeapKind} (e : l ≡ heap_is h) where
  pub below_abstract : {a : ℕ} {r : Bool} → l ≡ HeapKind.TheVariants.Abstract a → r ≡ heap_below ts (abstract (abstract_at a)) k → r ≡ heap_below ts h k
  below_abstract q p = rw (is_abstract h e q) p

  pub below-defined : {x : ℕ} {r : Bool} → l ≡ HeapKind.TheVariants.Defined x → r ≡ heap_below ts (named false x) k → r ≡ heap_below ts h k
  below-defined q p = rw (is_defined h e q) p

  pub below_exact : {x : ℕ} {r : Bool} → l ≡ HeapKind.TheVariants.Exact x → r ≡ heap_below ts (named true x) k → r ≡ heap_below ts h k
  below_exact q p = rw (is_exact h e q) p

pub ruleset below_exits = (below_abstract, below-defined, below_exact)
