-- Two reference types share a valid supertype exactly when they lie in one hierarchy, and exactly when the checker finds one top
-- for both. What is above both has a top, and both are below that; the other way round the top itself is above both.
use Prim.Native.Nat.{ℕ}
use mathlib.Core.Path.{◌≡◌, sym, ◌∙◌, subst}
use mathlib.Core.Logic.{◌↔◌}
use mathlib.Core.Bool.{Bool, true, false, not, ◌||◌}
use mathlib.Core.List.{List}
use lib.ListN.{length}
use Rattle.scope.specs.Abstract.{Abstract}
use Rattle.scope.specs.Syntax.{Heap, abstract, ref, nullable, Types, types_of}
use Rattle.scope.specs.Order.{HeapOrder, transitive, ValOrder, heaps, nulls, itself, chained, heap_below, val_below}
use Rattle.scope.specs.Judging.{accepted, Joined, judge_joined}
use Rattle.scope.specs.BodyRules.{top_of, one_hierarchy}
use Rattle.scope.proofs.Truths.{from_both}
use Rattle.scope.proofs.TenRows.{same_equal, equal_same}
use Rattle.scope.proofs.Order.{tested-order}
use Rattle.scope.proofs.Accepted.{accepted_passes}
use Rattle.facts_bodies.specs.Premises.{HeapReached, abstract_reached}
use Rattle.facts_bodies.specs.Apart.{TopOf, top_of_lem, ShareSupertype, OneHierarchy, one_hierarchy_lem}
use Rattle.facts_bodies.proofs.Premises.{Ordered, passes_ordered}
use Rattle.facts_bodies.proofs.Apart.{top_stands, only_top}

module _ {ts : Types} where
  may_be_null : (n : Bool) {h : Heap} → ValOrder ts (ref n h) (nullable h)
  may_be_null true = itself
  may_be_null false = nulls

  below_top_lem : (n : Bool) {h : Heap} {t : Abstract} → TopOf ts h t → ValOrder ts (ref n h) (nullable (abstract t))
  below_top_lem n (top_of_lem top p) = chained (may_be_null n) (heaps p)

  -- one hierarchy: both are below its top
  one_shares : {count : ℕ} (n m : Bool) {h k : Heap} → OneHierarchy ts h k → ShareSupertype count ts (ref n h) (ref m k)
  one_shares n m (one_hierarchy_lem {t = t} p q) =
      record { null = true; heap = abstract t; valid = abstract_reached; above_source = below_top_lem n p; above_target = below_top_lem m q }

  tested-one : (h k : Heap) → one_hierarchy ts h k ≡ true → OneHierarchy ts h k
  tested-one h k e =
      let same : top_of ts h ≡ top_of ts k = same_equal _ _ e in
      one_hierarchy_lem (top_stands ts h) (subst (TopOf ts k) (sym same) (top_stands ts k))

  pub tested_shares : {count : ℕ} (n m : Bool) (h k : Heap) → one_hierarchy ts h k ≡ true → ShareSupertype count ts (ref n h) (ref m k)
  tested_shares n m h k e = one_shares n m (tested-one h k e)

  -- document 01's tighter rule, that the target matches the source: then the source is above both
  pub matching_shares : {count : ℕ} {n m : Bool} {h k : Heap} → HeapReached count h → ValOrder ts (ref m k) (ref n h) → ShareSupertype count ts (ref n h) (ref m k)
  matching_shares {n} {h} in_reach matches = record { null = n; heap = h; valid = in_reach; above_source = itself; above_target = matches }

module _ {ts : Types} (ordered : Ordered ts) where
  referred : {n m : Bool} {h k : Heap} → ValOrder ts (ref n h) (ref m k) → HeapOrder ts h k
  unfolding val_below
  referred {n} {m} {h} {k} p = tested-order ts h k (from_both (not n || m) (heap_below ts h k) (ordered.tested (ref n h) (ref m k) p)).1

  -- what is above both has a top, which is above both too
  shares_one : {count : ℕ} {n m : Bool} {h k : Heap} → ShareSupertype count ts (ref n h) (ref m k) → OneHierarchy ts h k
  shares_one {h} {k} shared = go (top_stands ts shared.heap)
    where
      go : {t : Abstract} → TopOf ts shared.heap t → OneHierarchy ts h k
      go (top_of_lem top p) =
          one_hierarchy_lem (top_of_lem top (transitive (referred shared.above_source) p)) (top_of_lem top (transitive (referred shared.above_target) p))

  one-tested : {h k : Heap} → OneHierarchy ts h k → one_hierarchy ts h k ≡ true
  one-tested {h} {k} (one_hierarchy_lem p q) = equal_same _ _ (only_top ordered h p ∙ sym (only_top ordered k q))

  pub shares_tested : {count : ℕ} {n m : Bool} {h k : Heap} → ShareSupertype count ts (ref n h) (ref m k) → one_hierarchy ts h k ≡ true
  shares_tested shared = one-tested (shares_one shared)

-- over the types of accepted sections, whether the references may be null or not
module _ (library section : List ℕ) {j : Joined} (judged : judge_joined library section ≡ accepted j) (h k : Heap) where
  ordered_types : Ordered (types_of j.types)
  ordered_types = passes_ordered (accepted_passes library section judged)

  pub shared_exactly_in_one_hierarchy : (n m : Bool) → ShareSupertype (length j.types) (types_of j.types) (ref n h) (ref m k) ↔ OneHierarchy (types_of j.types) h k
  shared_exactly_in_one_hierarchy n m = (shares_one ordered_types, one_shares n m)

  pub one_hierarchy_exactly_tested : OneHierarchy (types_of j.types) h k ↔ (one_hierarchy (types_of j.types) h k ≡ true)
  one_hierarchy_exactly_tested = (one-tested ordered_types, tested-one h k)
