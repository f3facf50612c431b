-- Moving values down: after i turns the first i of them are there, and the words from there on are as they were.
use Prim.Native.Nat.{ℕ, ◌+◌, ◌*◌, ◌≤◌, ◌<◌}
use mathlib.Core.Path.{◌≡◌, refl, sym, ap, ap₂, ◌∙◌}
use mathlib.Core.List.{List, ◌∷◌, ◌++◌}
use native.Mathlib.Omega.{arith}
use lib.ListN.{length, get_or}
use Rattle.scope.specs.Layout.{value_span}
use Rattle.run_values.specs.Layout.{kind_place, bits_place}
use Rattle.run_values.specs.Values.{Word64At, value_at, set_value, Canon, entry_in}
use Rattle.run_values.proofs.Laws.{all_less, put_long, put_beside, put_here, put_all_more}
use Rattle.run_stack.specs.Pile.{pile, copied, Lower, Moved}
use Rattle.run_stack.proofs.Laws.{pile_more, pile_same, pile_join}

pub copied-one : {m m' : List ℕ} (from to : ℕ) {k n : ℕ} → m' ≡ set_value m to k n → Word64At m (kind_place from) k → Word64At m (bits_place from) n → m' ≡ copied m from to
unfolding copied
copied-one from to e a b = rw (e, a.is, b.is)

-- turn by turn

pub record Down (m₀ m : List ℕ) (from to i : ℕ) : Type 0 where
  pub moved : Moved m₀ m from to i
  pub rest : (w : ℕ) → value_span * (to + i) ≤ w → get_or m w 0 ≡ get_or m₀ w 0

pub down_none : {m : List ℕ} {from to n : ℕ} → Lower m from to n → Down m m from to 0
unfolding pile
down_none l =
    record {
      moved =
          record {
            top = refl;
            below = λ w h. refl;
            canon = λ all. all_less all (omega (arith, l.down));
            size = refl;
          };
      rest = λ w h. refl;
    }

pub down_more : {m₀ m m' : List ℕ} {from to n i : ℕ} → Down m₀ m from to i → Lower m₀ from to n → i < n → m' ≡ copied m (from + i) (to + i) → Down m₀ m' from to (i + 1)
unfolding copied entry_in
down_more {m₀} {m} {m'} {from} {to} {n} {i} d l h e =
    record {
      moved =
          record {
            top =
                pile_more m' to i
                ∙ ap₂ ◌∷◌ value (pile_same m m' to i (λ w l. beside w (λ q. omega arith) (λ q. omega arith)) ∙ d.moved.top)
                ∙ sym (pile_more m₀ from i);
            below = λ w l. beside w (λ q. omega arith) (λ q. omega arith) ∙ d.moved.below w l;
            canon = λ all.
                let next : to + (i + 1) ≡ to + i + 1 = omega arith in
                let word : Canon k₁ n₁ = rw (kind, bits) (all.each (from + i) (omega arith)) in
                rw (next, e) (put_all_more m (to + i) k₁ n₁ here word (d.moved.canon (all_less all (omega arith))));
            size = ap length e ∙ put_long m (to + i) k₁ n₁ ∙ d.moved.size;
          };
      rest = λ w l. beside w (λ q. omega arith) (λ q. omega arith) ∙ d.rest w (omega arith);
    }
  where
    k₁ : ℕ
    k₁ = get_or m (kind_place (from + i)) 0

    n₁ : ℕ
    n₁ = get_or m (bits_place (from + i)) 0

    here : bits_place (to + i) < length m
    here = omega (arith, d.moved.size, l.room, l.few, l.down)

    kind : k₁ ≡ get_or m₀ (kind_place (from + i)) 0
    kind = d.rest (kind_place (from + i)) (omega (arith, l.down))

    bits : n₁ ≡ get_or m₀ (bits_place (from + i)) 0
    bits = d.rest (bits_place (from + i)) (omega (arith, l.down))

    beside : (w : ℕ) → (w ≡ kind_place (to + i) → ⊥) → (w ≡ bits_place (to + i) → ⊥) → get_or m' w 0 ≡ get_or m w 0
    beside w a b = rw e (put_beside m (to + i) k₁ n₁ w a b)

    value : entry_in value_at m' (to + i) ≡ entry_in value_at m₀ (from + i)
    value = rw e (put_here m (to + i) k₁ n₁ here value_at) ∙ ap₂ value_at kind bits

pub down_all : {m₀ m : List ℕ} {from to n i : ℕ} → Down m₀ m from to i → i ≤ n → n ≤ i → Moved m₀ m from to n
down_all {n = n} {i = i} d a b = let same : n ≡ i = omega arith in rw same d.moved

-- moved down onto others: a branch out of blocks
pub moved-onto : {m m' : List ℕ} {from : ℕ} (base h : ℕ) {n : ℕ} → Moved m m' from (base + h) n → pile m' base (h + n) ≡ pile m from n ++ pile m base h
moved-onto {m} {m'} {from} base h {n} d = sym (pile_join m' base h n) ∙ ap₂ ◌++◌ d.top (pile_same m m' base h d.below)

pub ruleset down_exits = (copied-one, down_none, down_more, down_all)
