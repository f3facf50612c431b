-- A target in reach has a small code; each way out of what is asked of a target: the top of its hierarchy, its descriptor.
use Prim.Native.Nat.{ℕ, ◌+◌, ◌*◌, ◌<◌, ◌^◌}
use mathlib.Core.Path.{◌≡◌, sym, ap, ◌∙◌}
use mathlib.Core.Bool.{Bool, false, not}
use mathlib.Core.Option.{Option}
use native.Mathlib.Omega.{arith}
use borrow.Author.Tests.{not-false}
use mir.Syntax.{w16, w64}
use mir.Val.{Fits}
use Rattle.scope.specs.Told.{Maybe}
use Rattle.std.specs.Prelude.{None, Some}
use Rattle.scope.specs.Abstract.{Abstract, row}
use Rattle.scope.specs.Syntax.{Heap, defined, exact, Types}
use Rattle.scope.specs.Memory.{abstract_code}
use Rattle.scope.specs.Order.{kind_of}
use Rattle.scope.specs.TypeRules.{heap_names}
use Rattle.scope.specs.BodyRules.{top_of, descriptor_for}
use Rattle.scope.proofs.Impossible.{impossible}
use Rattle.type_abstract.specs.Heaps.{abstract_at}
use Rattle.type_abstract.proofs.Laws.{at_code}
use Rattle.type_table.specs.View.{heap_at_code}
use Rattle.type_table.specs.declared.HeapKind.{HeapKind}
use Rattle.type_table.specs.declared.HeapKind
use Rattle.type_table.specs.Answers.{heap_is}
use Rattle.type_table.proofs.Codes.{heap-at-code}
use Rattle.type_table.proofs.Laws.{is_abstract, is_defined, is_exact}
use Rattle.type_reach.specs.Names.{all_below}
use Rattle.type_reach.proofs.Small.{heap-small}
use Rattle.body_plan_parts.specs.Planning.{DescriptorOf, heap_bound}
use Rattle.body_plan_casts.specs.Casts.{DescriptorFor}

-- in reach

pub reach_small : (types heap : ℕ) {r : Bool} → r ≡ all_below types (heap_names (heap_at_code heap)) → not r ≡ false → Fits w16 types → heap < heap_bound
reach_small types heap {r} e t f =
    let low : heap < 12 + 2 * types = heap-small types heap (sym e ∙ not-false r t) in
    let few : types < 2 ^ 16 = f.fits in
    omega arith

-- the top of a hierarchy

module _ (ts : Types) (h : Heap) {u : HeapKind} (e : u ≡ heap_is h) where
  pub top_abstract : {a : ℕ} → u ≡ HeapKind.TheVariants.Abstract a → {t : ℕ} → t ≡ abstract_code (row (abstract_at a)).top → t ≡ abstract_code (top_of ts h)
  top_abstract q p = rw (is_abstract h e q) p

  kind_top : (x : ℕ) {k : ℕ} → k ≡ abstract_code (kind_of (ts x).form) → {t : ℕ} → t ≡ abstract_code (row (abstract_at k)).top → t ≡ abstract_code (row (kind_of (ts x).form)).top
  kind_top x g p = p ∙ ap (λ (a : Abstract). abstract_code (row a).top) (ap abstract_at g ∙ at_code (kind_of (ts x).form))

  pub top_defined : {x : ℕ} → u ≡ HeapKind.TheVariants.Defined x → {k : ℕ} → k ≡ abstract_code (kind_of (ts x).form) → {t : ℕ} → t ≡ abstract_code (row (abstract_at k)).top → t ≡ abstract_code (top_of ts h)
  top_defined {x} q g p = rw (is_defined h e q) (kind_top x g p)

  pub top_exact : {x : ℕ} → u ≡ HeapKind.TheVariants.Exact x → {k : ℕ} → k ≡ abstract_code (kind_of (ts x).form) → {t : ℕ} → t ≡ abstract_code (row (abstract_at k)).top → t ≡ abstract_code (top_of ts h)
  top_exact {x} q g p = rw (is_exact h e q) (kind_top x g p)

  -- the descriptor's type

  pub abstract_described : {a : ℕ} → u ≡ HeapKind.TheVariants.Abstract a → DescriptorFor (descriptor_for ts h) None
  abstract_described q =
      record { is = rw (is_abstract h e q); small = λ k f. impossible cc }

  module _ {x : ℕ} {d : Maybe ℕ} (b : DescriptorOf (ts x).descriptor d) where
    module _ (q : u ≡ HeapKind.TheVariants.Defined x) where
      pub defined-undescribed : d ≡ None → DescriptorFor (descriptor_for ts h) None
      defined-undescribed g =
          record { is = rw (is_defined h e q, ← b.is, g); small = λ k f. impossible cc }

      pub defined-described : {y : ℕ} → d ≡ Some y → DescriptorFor (descriptor_for ts h) (Some (10 + 2 * y))
      defined-described {y} g =
          let low = b.small y g in
          record {
            is = rw (is_defined h e q, ← b.is, g, heap-at-code (defined y));
            small = λ k f. let same : 10 + 2 * y ≡ k = cc in rw (← same) (omega arith);
          }

    module _ (q : u ≡ HeapKind.TheVariants.Exact x) where
      pub exact_undescribed : d ≡ None → DescriptorFor (descriptor_for ts h) None
      exact_undescribed g =
          record { is = rw (is_exact h e q, ← b.is, g); small = λ k f. impossible cc }

      pub exact_described : {y : ℕ} → d ≡ Some y → DescriptorFor (descriptor_for ts h) (Some (11 + 2 * y))
      exact_described {y} g =
          let low = b.small y g in
          record {
            is = rw (is_exact h e q, ← b.is, g, heap-at-code (exact y));
            small = λ k f. let same : 11 + 2 * y ≡ k = cc in rw (← same) (omega arith);
          }

module _ {o : Option ℕ} {d : Maybe ℕ} (b : DescriptorOf o d) {y : ℕ} (q : d ≡ Some y) where
  pub twice-fits : Fits w64 (2 * y)
  twice-fits = let low = b.small y q in record { fits = omega arith }

  pub defined-fits : Fits w64 (10 + 2 * y)
  defined-fits = let low = b.small y q in record { fits = omega arith }

  pub exact_fits : Fits w64 (11 + 2 * y)
  exact_fits = let low = b.small y q in record { fits = omega arith }

pub ruleset target_exits = (top_abstract, top_defined, top_exact, abstract_described, defined-undescribed, defined-described, exact_undescribed, exact_described, twice-fits, defined-fits, exact_fits)
