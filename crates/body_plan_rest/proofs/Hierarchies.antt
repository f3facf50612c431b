-- The tops of two heap types have one number where they are one abstract type.
use Prim.Native.Nat.{ℕ}
use mathlib.Core.Path.{◌≡◌, sym, ap, ◌∙◌}
use mathlib.Core.Bool.{true, false}
use mathlib.Core.Logic.{◌⊎◌, inl, inr}
use lib.Dec.{eqb}
use borrow.Author.Tests.{eqb-true, eqb-false}
use Rattle.scope.specs.Abstract.{Abstract, same_abstract}
use Rattle.scope.specs.Syntax.{Heap, Types}
use Rattle.scope.specs.Memory.{abstract_code}
use Rattle.scope.specs.BodyRules.{top_of, one_hierarchy}
use Rattle.scope.proofs.Truths.{decided}
use Rattle.scope.proofs.TenRows.{same_equal, equal_same}
use Rattle.type_abstract.specs.Heaps.{abstract_at}
use Rattle.type_abstract.proofs.Laws.{at_code}

same_number_lem : (a b : Abstract) → eqb (abstract_code a) (abstract_code b) ≡ same_abstract a b
same_number_lem a b = go (decided (eqb (abstract_code a) (abstract_code b))) (decided (same_abstract a b))
  where
    go : (eqb (abstract_code a) (abstract_code b) ≡ true) ⊎ (eqb (abstract_code a) (abstract_code b) ≡ false)
        → (same_abstract a b ≡ true) ⊎ (same_abstract a b ≡ false)
        → eqb (abstract_code a) (abstract_code b) ≡ same_abstract a b
    go (inl p) other = p ∙ sym (equal_same a b (sym (at_code a) ∙ ap abstract_at (eqb-true _ _ p) ∙ at_code b))
    go (inr p) (inl q) = absurd (eqb-false _ _ p (ap abstract_code (same_equal a b q)))
    go (inr p) (inr q) = p ∙ sym q

pub tops_compared : (ts : Types) (h k : Heap) {from to : ℕ} → from ≡ abstract_code (top_of ts h) → to ≡ abstract_code (top_of ts k) → eqb from to ≡ one_hierarchy ts h k
tops_compared ts h k p q = rw (p, q) (same_number_lem (top_of ts h) (top_of ts k))
