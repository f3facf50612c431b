-- The ways out of climbs_to are the cases of the test over ranges.
use Prim.Native.Nat.{ℕ, ◌+◌, ◌*◌, ◌≤◌, ◌<◌}
use mathlib.Core.Path.{◌≡◌}
use mathlib.Core.Bool.{Bool, true, false}
use mathlib.Core.List.{List}
use borrow.Author.Tests.{eq-eqb, ne_eqb, lt-ltb, le-ltb}
use lib.Dec.{eqb, ltb}
use Rattle.scope.specs.Sizes.{most_steps}
use Rattle.scope.specs.Layout.{row_span}
use Rattle.scope.specs.Order.{climbs}
use Rattle.lent_u16.specs.Words.{WordAt}
use Rattle.type_table.specs.View.{view}
use Rattle.type_span.specs.Span.{start_word, end_word}
use Rattle.type_hierarchy.specs.Ranged.{within, Ranged}

module _ {rows codes : List ℕ} (ranged : Ranged rows codes) (x y : ℕ) where
  pub range_own : x ≡ y → true ≡ climbs most_steps (view rows codes) x y
  unfolding within
  range_own e = let r = ranged.is x y in rw (eq-eqb x y e) at r

  module _ (other : x ≡ y → ⊥) {s t : ℕ} (a : WordAt rows (row_span * x + start_word) s) (b : WordAt rows (row_span * y + start_word) t) where
    pub range_before : s < t → false ≡ climbs most_steps (view rows codes) x y
    unfolding within
    range_before h = let r = ranged.is x y in rw (ne_eqb x y other, ← a.is, ← b.is, lt-ltb s t h) at r

    pub range_in : {e : ℕ} → t ≤ s → WordAt rows (row_span * y + end_word) e → ltb s e ≡ climbs most_steps (view rows codes) x y
    unfolding within
    range_in h d = let r = ranged.is x y in rw d.is (rw (ne_eqb x y other, ← a.is, ← b.is, le-ltb s t h) at r)

pub ruleset range_exits = (range_own, range_before, range_in)
