-- "Each float result is rounded once": what is rounded has one result, and it is that of `rounded`; a magnitude that needs no
-- rounding stays as it is.
use Prim.Native.Nat.{ℕ, ◌*◌, ◌≤◌, ◌<◌}
use native.Mathlib.Nat.{zero-lt-suc, mul-one}
use mathlib.Core.Path.{◌≡◌, refl, sym, ap, ◌∙◌}
use mathlib.Core.Bool.{Bool}
use Rattle.scope.specs.Rounding.{Width, infinite, units, rounded}
use Rattle.scope.specs.Floats.{with_sign, RoundedOnce}
use Rattle.facts_floats.specs.Standard.{Proper}
use Rattle.scope.proofs.Rounds.{rounded_nearest, nearest_unique, rounded_exact}

module _ (w : Width) (proper : Proper w) where
  pub once : (s : Bool) (n d : ℕ) → 0 < d → RoundedOnce w s n d (with_sign w s (rounded w n d))
  once s n d h = record { to = rounded w n d; is = refl; near = rounded_nearest w n d h proper.some_digit }

  pub once_only : {s : Bool} {n d r : ℕ} → 0 < d → RoundedOnce w s n d r → r ≡ with_sign w s (rounded w n d)
  once_only {s} {n} {d} h p = p.is ∙ ap (with_sign w s) (nearest_unique w n d h proper.some_digit p.near (rounded_nearest w n d h proper.some_digit))

  pub once_unique : {s : Bool} {n d r t : ℕ} → 0 < d → RoundedOnce w s n d r → RoundedOnce w s n d t → r ≡ t
  once_unique h p q = once_only h p ∙ sym (once_only h q)

  pub exactly : {m : ℕ} (d : ℕ) → 0 < d → m ≤ infinite w → rounded w (units w m * d) d ≡ m
  exactly {m} d D h = rounded_exact w (units w m * d) d D proper.some_digit m h refl

  pub exactly_whole : {m : ℕ} → m ≤ infinite w → rounded w (units w m) 1 ≡ m
  exactly_whole {m} h = rounded_exact w (units w m) 1 (zero-lt-suc 0) proper.some_digit m h (sym (mul-one (units w m)))
