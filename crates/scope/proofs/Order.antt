-- Type rule 6: its relation and its test say the same. What the test says, the relation's constructors build, step by
-- step up the table and the chains. The other way, the test is reflexive and, where supertypes have equal forms and short
-- chains, transitive: a heap type below another has its base below that one's base, and below a bottom there is nothing else.
use Prim.Native.Nat.{ℕ, zero, suc}
use mathlib.Core.Path.{◌≡◌, refl, sym, ◌∙◌, ap, subst}
use mathlib.Core.Logic.{◌⊎◌, inl, inr}
use mathlib.Core.Bool.{true, false, cond, false≢true}
use mathlib.Core.List.{List}
use lib.Dec.{eqb}
use borrow.Author.Tests.{eqb-true, eq-eqb}
use Rattle.scope.specs.Sizes.{most_steps}
use Rattle.scope.specs.Lists.{some_of}
use Rattle.scope.specs.Abstract.{Abstract, row, same_abstract}
use Rattle.scope.specs.Syntax.{Heap, abstract, defined, exact, Number, i32, i64, f32, f64, Val, num, ref, Form, struct, func, Definition, Types, types_of}
use Rattle.scope.specs.Order.{kind_of, bottom_of, HeapOrder, listed, exactly, supertype, kind, bottom, reflexive, transitive, ValOrder, heaps, nulls, itself, chained, up_table, abstract_below, climbs, heap_below, number_code, same_number, val_below}
use Rattle.scope.proofs.Truths.{both, from_both, from_either, implies, implies_transitive, from_some, some_at}
use Rattle.scope.proofs.TenRows.{same_equal, equal_same, row_kept, pair-kept, abstract_transitive}
use Rattle.scope.proofs.Accepted.{Passes}
use Rattle.scope.proofs.Chains.{Chain, here, above, climb_is_chain, climbs_to_itself, chain_climbs, climbs_transitive, climb_keeps_kind}

-- The test's yes is built from the relation's constructors

module _ (ts : Types) where
  table-order : (steps : ℕ) (a b : Abstract) → up_table steps a b ≡ true → HeapOrder ts (abstract a) (abstract b)
  unfolding up_table
  table-order zero a b e = rw (same_equal a b e) reflexive
  table-order (suc steps) a b e = go (from_either (same_abstract a b) _ e) (λ c. table-order steps c b)
    where
      go : (same_abstract a b ≡ true) ⊎ (some_of (λ c. up_table steps c b) (row a).above ≡ true)
          → ((c : Abstract) → up_table steps c b ≡ true → HeapOrder ts (abstract c) (abstract b))
          → HeapOrder ts (abstract a) (abstract b)
      go (inl same) later = rw (same_equal a b same) reflexive
      go (inr f) later =
          let (c, among, more) = from_some (λ c. up_table steps c b) (row a).above f in
          transitive (listed (some_at (same_abstract c) among (equal_same c c refl))) (later c more)

  pub chain_order : {x y : ℕ} → Chain ts x y → HeapOrder ts (defined x) (defined y)
  chain_order here = reflexive
  chain_order (above e c) = transitive (supertype e) (chain_order c)

  climb_order : (x y : ℕ) → climbs most_steps ts x y ≡ true → HeapOrder ts (defined x) (defined y)
  climb_order x y e = chain_order (climb_is_chain most_steps ts x y e)

  bottom_order : (a : Abstract) (x : ℕ) → same_abstract a (bottom_of (ts x).form) ≡ true → HeapOrder ts (abstract a) (exact x)
  bottom_order a x e = bottom (sym (same_equal a (bottom_of (ts x).form) e))

  kind_order : (x : ℕ) (b : Abstract) → abstract_below (kind_of (ts x).form) b ≡ true → HeapOrder ts (defined x) (abstract b)
  kind_order x b e = transitive (kind refl) (table-order 3 (kind_of (ts x).form) b e)

  pub tested-order : (h k : Heap) → heap_below ts h k ≡ true → HeapOrder ts h k
  unfolding heap_below
  tested-order (abstract a) (abstract b) e = table-order 3 a b e
  tested-order (abstract a) (defined y) e = transitive (bottom_order a y e) exactly
  tested-order (abstract a) (exact y) e = bottom_order a y e
  tested-order (defined x) (abstract b) e = kind_order x b e
  tested-order (defined x) (defined y) e = climb_order x y e
  tested-order (defined x) (exact y) e = absurd (false≢true e)
  tested-order (exact x) (abstract b) e = transitive exactly (kind_order x b e)
  tested-order (exact x) (defined y) e = transitive exactly (climb_order x y e)
  tested-order (exact x) (exact y) e = rw (eqb-true x y e) reflexive

  pub below_reflexive : (h : Heap) → heap_below ts h h ≡ true
  unfolding heap_below
  below_reflexive (abstract a) = (row_kept a).below_itself
  below_reflexive (defined x) = climbs_to_itself most_steps ts x
  below_reflexive (exact x) = eq-eqb x x refl

-- what a heap type is compared by where the upper one is abstract
abbrev pub base_of : Types → Heap → Abstract
base_of ts (abstract a) = a
base_of ts (defined x) = kind_of (ts x).form
base_of ts (exact x) = kind_of (ts x).form

below_abstract : (ts : Types) (h : Heap) (b : Abstract) → heap_below ts h (abstract b) ≡ abstract_below (base_of ts h) b
unfolding heap_below
below_abstract ts (abstract a) b = refl
below_abstract ts (defined x) b = refl
below_abstract ts (exact x) b = refl

kind_above_bottom : (f g : Form) → abstract_below (kind_of f) (bottom_of g) ≡ false
unfolding up_table
kind_above_bottom (struct fs) (struct gs) = refl
kind_above_bottom (struct fs) (func qs ss) = refl
kind_above_bottom (func ps rs) (struct gs) = refl
kind_above_bottom (func ps rs) (func qs ss) = refl

nothing_below_bottom_lem : (ts : Types) (h : Heap) (f : Form) → heap_below ts h (abstract (bottom_of f)) ≡ true → h ≡ abstract (bottom_of f)
unfolding heap_below
nothing_below_bottom_lem ts (abstract a) f e = ap abstract ((pair-kept (kind_of f) a).nothing_below_bottom e)
nothing_below_bottom_lem ts (defined x) f e = absurd (false≢true (sym (kind_above_bottom (ts x).form f) ∙ e))
nothing_below_bottom_lem ts (exact x) f e = absurd (false≢true (sym (kind_above_bottom (ts x).form f) ∙ e))

only_itself-below_bottom : (ts : Types) (h : Heap) (b : Abstract) (f : Form) → heap_below ts h (abstract b) ≡ true → same_abstract b (bottom_of f) ≡ true → h ≡ abstract b
only_itself-below_bottom ts h b f e same =
    let q : b ≡ bottom_of f = same_equal b (bottom_of f) same in
    rw q (nothing_below_bottom_lem ts h f (rw q at e))

below_exact_below-defined : (ts : Types) (h : Heap) (y : ℕ) → heap_below ts h (exact y) ≡ true → heap_below ts h (defined y) ≡ true
unfolding heap_below
below_exact_below-defined ts (abstract a) y e = e
below_exact_below-defined ts (defined x) y e = absurd (false≢true e)
below_exact_below-defined ts (exact x) y e = rw (eqb-true x y e) (climbs_to_itself most_steps ts y)

equal_below : (a b : Abstract) → a ≡ b → abstract_below a b ≡ true
equal_below a b e = rw e (row_kept b).below_itself

bottom_below_kind : (a : Abstract) (f : Form) → same_abstract a (bottom_of f) ≡ true → abstract_below a (kind_of f) ≡ true
bottom_below_kind a f e = rw (same_equal a (bottom_of f) e) (row_kept (kind_of f)).above_bottom

-- Where the table passes, the test is transitive

module _ {ds : List Definition} (passes : Passes ds) where
  base_follows : (h k : Heap) → heap_below (types_of ds) h k ≡ true → abstract_below (base_of (types_of ds) h) (base_of (types_of ds) k) ≡ true
  unfolding heap_below
  base_follows (abstract a) (abstract b) e = e
  base_follows (abstract a) (defined y) e = bottom_below_kind a (types_of ds y).form e
  base_follows (abstract a) (exact y) e = bottom_below_kind a (types_of ds y).form e
  base_follows (defined x) (abstract b) e = e
  base_follows (defined x) (defined y) e = equal_below _ _ (climb_keeps_kind passes x y e)
  base_follows (defined x) (exact y) e = absurd (false≢true e)
  base_follows (exact x) (abstract b) e = e
  base_follows (exact x) (defined y) e = equal_below _ _ (climb_keeps_kind passes x y e)
  base_follows (exact x) (exact y) e = rw (eqb-true x y e) (row_kept (kind_of (types_of ds y).form)).below_itself

  through_defined : (h : Heap) (y z : ℕ) → heap_below (types_of ds) h (defined y) ≡ true → climbs most_steps (types_of ds) y z ≡ true → heap_below (types_of ds) h (defined z) ≡ true
  unfolding heap_below
  through_defined (abstract a) y z e f = subst (λ (b : Abstract). same_abstract a (row b).bottom ≡ true) (climb_keeps_kind passes y z f) e
  through_defined (defined x) y z e f = climbs_transitive passes x y z e f
  through_defined (exact x) y z e f = climbs_transitive passes x y z e f

  pub below_transitive : (h k l : Heap) → heap_below (types_of ds) h k ≡ true → heap_below (types_of ds) k l ≡ true → heap_below (types_of ds) h l ≡ true
  unfolding heap_below
  below_transitive h k (abstract c) e f =
      let lower = base_follows h k e in
      let upper = rw (below_abstract (types_of ds) k c) at f in
      rw (below_abstract (types_of ds) h c) (abstract_transitive _ _ c lower upper)
  below_transitive h (abstract b) (defined z) e f = rw (only_itself-below_bottom (types_of ds) h b (types_of ds z).form e f) f
  below_transitive h (abstract b) (exact z) e f = rw (only_itself-below_bottom (types_of ds) h b (types_of ds z).form e f) f
  below_transitive h (defined y) (defined z) e f = through_defined h y z e f
  below_transitive h (defined y) (exact z) e f = absurd (false≢true f)
  below_transitive h (exact y) (defined z) e f = through_defined h y z (below_exact_below-defined (types_of ds) h y e) f
  below_transitive h (exact y) (exact z) e f = rw (eqb-true y z f) at e

  pub order-tested : (h k : Heap) → HeapOrder (types_of ds) h k → heap_below (types_of ds) h k ≡ true
  unfolding heap_below
  order-tested h k (listed {a = a} {b = b} e) = (pair-kept a b).listed_below e
  order-tested h k (exactly {x = x}) = climbs_to_itself most_steps (types_of ds) x
  order-tested h k (supertype e) = chain_climbs passes (above e here)
  order-tested h k (kind e) = equal_below _ _ e
  order-tested h k (bottom e) = equal_same _ _ (sym e)
  order-tested h k reflexive = below_reflexive (types_of ds) h
  order-tested h l (transitive {k = k} p q) = below_transitive h k l (order-tested h k p) (order-tested k l q)

  pub only_below_exact : (h : Heap) (x : ℕ) → HeapOrder (types_of ds) h (exact x) → (h ≡ exact x) ⊎ (h ≡ abstract (bottom_of (types_of ds x).form))
  unfolding heap_below
  only_below_exact h x p = go h (order-tested h (exact x) p)
    where
      go : (h : Heap) → heap_below (types_of ds) h (exact x) ≡ true → (h ≡ exact x) ⊎ (h ≡ abstract (bottom_of (types_of ds x).form))
      go (abstract a) e = inr (ap abstract (same_equal a _ e))
      go (defined y) e = absurd (false≢true e)
      go (exact y) e = inl (ap exact (eqb-true y x e))

-- Values are ordered as what they refer to

-- the number type with this code
abbrev number_of : ℕ → Number
number_of n = cond (eqb n 0) i32 (cond (eqb n 1) i64 (cond (eqb n 2) f32 f64))

code-names-number : (a : Number) → number_of (number_code a) ≡ a
code-names-number i32 = refl
code-names-number i64 = refl
code-names-number f32 = refl
code-names-number f64 = refl

pub same_number_equal : (a b : Number) → same_number a b ≡ true → a ≡ b
same_number_equal a b e = sym (code-names-number a) ∙ ap number_of (eqb-true (number_code a) (number_code b) e) ∙ code-names-number b

module _ (ts : Types) where
  pub tested_value_order : (v w : Val) → val_below ts v w ≡ true → ValOrder ts v w
  unfolding val_below
  tested_value_order (num a) (num b) e = rw (same_number_equal a b e) itself
  tested_value_order (num a) (ref m k) e = absurd (false≢true e)
  tested_value_order (ref n h) (num b) e = absurd (false≢true e)
  tested_value_order (ref true h) (ref true k) e = heaps (tested-order ts h k e)
  tested_value_order (ref true h) (ref false k) e = absurd (false≢true e)
  tested_value_order (ref false h) (ref true k) e = chained nulls (heaps (tested-order ts h k e))
  tested_value_order (ref false h) (ref false k) e = heaps (tested-order ts h k e)

  pub value_below_reflexive : (v : Val) → val_below ts v v ≡ true
  unfolding val_below
  value_below_reflexive (num a) = eq-eqb (number_code a) (number_code a) refl
  value_below_reflexive (ref true h) = below_reflexive ts h
  value_below_reflexive (ref false h) = below_reflexive ts h

module _ {ds : List Definition} (passes : Passes ds) where
  pub value_below_transitive : (u v w : Val) → val_below (types_of ds) u v ≡ true → val_below (types_of ds) v w ≡ true → val_below (types_of ds) u w ≡ true
  unfolding val_below
  value_below_transitive (num a) (num b) w e f = rw (same_number_equal a b e) f
  value_below_transitive (num a) (ref m k) w e f = absurd (false≢true e)
  value_below_transitive (ref n h) (num b) w e f = absurd (false≢true e)
  value_below_transitive (ref n h) (ref m k) (num c) e f = absurd (false≢true f)
  value_below_transitive (ref n h) (ref m k) (ref o l) e f =
      let (n-m, h-k) = from_both (implies n m) (heap_below (types_of ds) h k) e in
      let (m-o, k-l) = from_both (implies m o) (heap_below (types_of ds) k l) f in
      both (implies_transitive n m o n-m m-o) (below_transitive passes h k l h-k k-l)

  pub value_order-tested : (v w : Val) → ValOrder (types_of ds) v w → val_below (types_of ds) v w ≡ true
  unfolding val_below
  value_order-tested v w (heaps {n = true} {h = h} {k = k} p) = order-tested passes h k p
  value_order-tested v w (heaps {n = false} {h = h} {k = k} p) = order-tested passes h k p
  value_order-tested v w (nulls {h = h}) = below_reflexive (types_of ds) h
  value_order-tested v w itself = value_below_reflexive (types_of ds) v
  value_order-tested u w (chained {v = v} p q) = value_below_transitive u v w (value_order-tested u v p) (value_order-tested v w q)
