-- The operand on top, read and put.
use Prim.Native.Nat.{ℕ, ◌+◌, ◌-◌, ◌*◌, ◌<◌}
use mathlib.Core.Path.{◌≡◌, sym, ap, ap₂, ◌∙◌}
use mathlib.Core.Option.{some}
use mathlib.Core.List.{List, ◌∷◌}
use native.Mathlib.Omega.{arith}
use lib.ListN.{length, get_or}
use Rattle.std.specs.Prelude.{None, Some}
use Rattle.scope.specs.Layout.{value_span}
use Rattle.run_values.specs.Values.{Word64At, value_at, entry_in}
use Rattle.run_values.proofs.Laws.{put_long, put_beside, put_here, put_all_more}
use Rattle.run_stack.specs.Pile.{Room, head_of, TopIs, Pushed}
use Rattle.run_stack.proofs.Laws.{pile-none, pile_more, pile-some, pile_same}
use Rattle.run_value.specs.declared.Value.{Value as Carrier}
use Rattle.run_value.specs.Carried.{decoded, value_kind, value_bits, with_value, ValueIs}
use Rattle.run_value.proofs.Laws.{said, canon_said}
use Rattle.run_values.specs.Layout.{bits_place}

-- read

pub top_nothing : (m : List ℕ) (base : ℕ) {h : ℕ} → h ≡ 0 → TopIs m base h None
top_nothing m base e = record { is = ap head_of (sym (pile-none m base e)) }

pub top_there : {m : List ℕ} {base h k n : ℕ} → (h ≡ 0 → ⊥) → Word64At m (value_span * (base + (h - 1))) k → Word64At m (value_span * (base + (h - 1)) + 1) n → {v : Carrier} → ValueIs k n v → TopIs m base h (Some v)
unfolding entry_in
top_there {m} {base} {h} {k} {n} d a b c =
    record { is = ap some c.is ∙ ap₂ (λ (x y : ℕ). some (value_at x y)) a.is b.is ∙ ap head_of (sym (pile-some m base d)) }

-- put

pub pushed_one : {m m' : List ℕ} {base h : ℕ} (v : Carrier) → m' ≡ with_value m (base + h) v → Room m base h 1 → Pushed m m' base h v
pushed_one {m} {m'} {base} {h} v e room =
    let k : ℕ = value_kind v in
    let n : ℕ = value_bits v in
    let here : bits_place (base + h) < length m = omega (arith, room.room, room.few) in
    let below : (i : ℕ) → i < value_span * (base + h) → get_or m' i 0 ≡ get_or m i 0 = λ i l. rw e (put_beside m (base + h) k n i (λ q. omega arith) (λ q. omega arith)) in
    let value : entry_in value_at m' (base + h) ≡ decoded v = rw e (put_here m (base + h) k n here value_at) ∙ said v in
    let next : base + (h + 1) ≡ base + h + 1 = omega arith in
    record {
      top = pile_more m' base h ∙ ap₂ ◌∷◌ value (pile_same m m' base h below);
      below = below;
      canon = λ all. rw (e, next) (put_all_more m (base + h) k n here (canon_said v) all);
      size = rw e (put_long m (base + h) k n);
    }

pub ruleset top_exits = (top_nothing, top_there, pushed_one)
