-- The locals that are read are few enough, and the table keeps their types as they are: an entry is refused where its type
-- is out of reach or where there would be too many.
use Prim.Native.Nat.{ℕ, zero, suc, ◌+◌, ◌≤◌}
use mathlib.Core.Path.{◌≡◌, refl, ap₂, ◌∙◌}
use mathlib.Core.Bool.{Bool, true, false, cond}
use mathlib.Core.List.{List, ◌∷◌, ◌++◌, map, map-append}
use native.Mathlib.Omega.{arith}
use lib.ListN.{length, replicate, length-append, length-replicate}
use lib.Dec.{ltb, leb}
use borrow.Author.Tests.{leb-true}
use Rattle.scope.specs.Sizes.{most_types, most_locals}
use Rattle.scope.specs.Lists.{every}
use Rattle.scope.specs.Reading.{Read}
use Rattle.scope.specs.Numbers.{u32}
use Rattle.scope.specs.Syntax.{Val}
use Rattle.scope.specs.Sections.{val_at}
use Rattle.scope.specs.TypeRules.{val_names}
use Rattle.scope.specs.Bodies.{locals_at}
use Rattle.scope.proofs.Telling.{Gives, gives_this, gives_nothing, gives_then}
use Rattle.type_table.specs.Kept.{kept_val}
use Rattle.type_table.proofs.KeptReach.{val_keeps}

pub record Modest (before : ℕ) (vs : List Val) : Type 0 where
  pub few : before + length vs ≤ most_locals
  pub kept : map kept_val vs ≡ vs

pub gives-tested : {A : Type 0} {P : A → Type 0} (t : Bool) {a b : Read A} → (t ≡ true → Gives P a) → Gives P b → Gives P (cond t a b)
gives-tested true k b = k refl
gives-tested false k b = b

kept_several : (k : ℕ) {v : Val} → kept_val v ≡ v → map kept_val (replicate k v) ≡ replicate k v
kept_several zero e = refl
kept_several (suc k) e = ap₂ ◌∷◌ e (kept_several k e)

modest_more : {before : ℕ} (k : ℕ) {v : Val} {vs : List Val} → kept_val v ≡ v → Modest (before + k) vs → Modest before (replicate k v ++ vs)
modest_more {before} k {v} {vs} e m =
    record {
      few = simp (length-append, length-replicate) (omega (arith, m.few));
      kept = map-append kept_val (replicate k v) vs ∙ ap₂ ◌++◌ (kept_several k e) m.kept;
    }

pub locals_modest : {types : ℕ} → types ≤ most_types → (n : ℕ) {before : ℕ} → before ≤ most_locals → (s : List ℕ) (at : ℕ) → Gives (Modest before) (locals_at types n before s at)
unfolding locals_at
locals_modest h zero few s at = gives_this (record { few = omega arith; kept = refl })
locals_modest {types} h (suc n) {before} few s at =
    gives_then (u32 s at) (λ k type e.
    gives_then (val_at s type) (λ v next f.
    gives-tested (every (λ x. ltb x types) (val_names v)) (λ reached.
    gives-tested (leb (before + k) most_locals) (λ sized.
    gives_then (locals_at types n (before + k) s next) (λ vs stop g.
    gives_this (modest_more k ((val_keeps (omega arith)).same v reached) ((locals_modest h n (leb-true (before + k) most_locals sized) s next).tells vs stop g))))
    gives_nothing)
    gives_nothing))
