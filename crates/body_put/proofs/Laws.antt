-- Operands that are put on top: none, one piece after another, and two lists as one.
use Prim.Native.Nat.{ℕ, ◌≤◌}
use mathlib.Core.Path.{◌≡◌, refl, ap, ◌∙◌}
use mathlib.Core.List.{List, [], ◌++◌, map, reverse, append_assoc, map-append, reverse-append}
use native.Mathlib.Omega.{arith}
use Rattle.scope.specs.Syntax.{Val}
use Rattle.scope.specs.Bodies.{Operand, known, on_top}
use Rattle.body_put.specs.Putting.{Pushed}

pub on_top_append : (vs more : List Val) → on_top (vs ++ more) ≡ on_top more ++ on_top vs
on_top_append vs more = ap (map known) (reverse-append vs more) ∙ map-append known (reverse more) (reverse vs)

pub pushed_none : (work : List ℕ) (base height : ℕ) → Pushed work work base height height []
pushed_none work base height = record { top = refl; below = λ i h. refl; beyond = λ i h. refl; size = refl }

pub pushed_more : {work work' work'' : List ℕ} {base height height' height'' : ℕ} {os more : List Operand} → height ≤ height' → Pushed work work' base height height' os → Pushed work' work'' base height' height'' more → Pushed work work'' base height height'' (more ++ os)
pushed_more h p q =
    record {
      top = rw (q.top, p.top, append_assoc);
      below = λ i l. q.below i (omega arith) ∙ p.below i l;
      beyond = λ i l. q.beyond i l ∙ p.beyond i l;
      size = q.size ∙ p.size;
    }
