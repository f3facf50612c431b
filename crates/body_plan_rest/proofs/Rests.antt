-- Each way out of the rest's code: it may be null where the source may and the target may not.
use Prim.Native.Nat.{ℕ}
use mathlib.Core.Path.{◌≡◌, refl}
use mathlib.Core.Bool.{Bool, true, false, not, ◌&&◌}
use Rattle.scope.specs.Syntax.{Heap, ref}
use Rattle.body_plan_parts.specs.Planning.{CodeIs}

never : (s : Bool) → false ≡ (s && false)
never true = refl
never false = refl

always : (s : Bool) → s ≡ (s && true)
always true = refl
always false = refl

module _ (source target : Bool) (h : Heap) {c : ℕ} where
  pub rest_non_null : target ≡ true → CodeIs (ref false h) c → CodeIs (ref (source && not target) h) c
  rest_non_null e a = rw (e, ← never source) a

  pub rest_as_source : target ≡ false → CodeIs (ref source h) c → CodeIs (ref (source && not target) h) c
  rest_as_source e a = rw (e, ← always source) a

pub ruleset rest_exits = (rest_non_null, rest_as_source)
