-- From the numbers of one path to those of the other, and back.
use Prim.Native.Nat.{ℕ, ◌+◌, ◌-◌, ◌<◌, ◌≤◌}
use mathlib.Core.Path.{◌≡◌, refl, ap}
use mathlib.Core.Bool.{Bool, true, false}
use native.Mathlib.Omega.{arith}
use lib.Dec.{eqb}
use mir.Syntax.{w16, w32}
use mir.Val.{Fits}
use Rattle.scope.specs.Memory.{flag}
use Rattle.body_state.specs.declared.Check.{Check}
use Rattle.body_progress.specs.declared.Progress.{Progress}
use Rattle.body_progress.specs.Standing.{check_of}
use Rattle.body_lap.specs.Laps.{Within, progress_of}

flag_back : (d : Bool) → eqb (flag d) 1 ≡ d
flag_back true = refl
flag_back false = refl

pub flag_few : (d : Bool) → flag d ≤ 1
flag_few true = omega arith
flag_few false = omega arith

height_back : (base height : ℕ) → base + height - base ≡ height
height_back base height = omega arith

pub check_back : (st : Check) → check_of st.depth st.base (st.base + st.height) (flag st.dead) ≡ st
check_back st =
    let h = height_back st.base st.height in
    let d = flag_back st.dead in
    λ i. record { depth = st.depth; base = st.base; height = h i; dead = d i }

module _ {r : Progress} (w : Within r) where
  pub within-above : r.base ≤ r.top
  within-above = w.ordered.above

  pub depth_fits : Fits w16 r.depth
  depth_fits = let d = w.deep in record { fits = omega arith }

  pub base-fits : Fits w32 r.base
  base-fits = let a = w.ordered.above in let b = w.ordered.low in record { fits = omega arith }

  pub height_fits : Fits w32 (r.top - r.base)
  height_fits = let a = w.ordered.above in let b = w.ordered.low in record { fits = omega arith }

pub progress_made : (count next : ℕ) (st : Check) {d : ℕ} → d ≡ flag st.dead → ◌≡◌ {A = Progress} (record { count = count; next = next; depth = st.depth; base = st.base; top = st.base + st.height; dead = d }) (progress_of count st next)
progress_made count next st e = ap (λ (d : ℕ). record { count = count; next = next; depth = st.depth; base = st.base; top = st.base + st.height; dead = d }) e

pub ruleset between_exits = (progress_made, within-above, depth_fits, base-fits, height_fits)
