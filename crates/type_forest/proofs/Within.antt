-- x climbs to y exactly where the start of x lies in the range of y. Up: each step up is a wider range. The other way: among what
-- stands where y stands, x is below exactly one, and the ranges of the others lie apart.
use Prim.Native.Nat.{ℕ, zero, suc, ◌+◌, ◌≤◌, ◌<◌}
use native.Mathlib.Omega.{arith}
use mathlib.Core.Path.{◌≡◌, refl, sym, ◌∙◌}
use mathlib.Core.Logic.{◌⊎◌, inl, inr}
use mathlib.Core.Bool.{Bool, true, false}
use borrow.Author.Tests.{eqb-true, eqb-false, ltb-true, ltb-false}
use lib.Dec.{eqb, ltb}
use Rattle.scope.specs.Ranges.{total, base}
use Rattle.type_forest.specs.Forest.{Up, here, above, Lower, Sizes, Starts}
use Rattle.type_forest.proofs.Totals.{total_has}

data Order (a b : ℕ) : Type 0 where
  less : a < b → Order a b
  same : a ≡ b → Order a b
  more : b < a → Order a b

order : (a b : ℕ) → Order a b
order a b = go (ltb a b) (eqb a b) refl refl
  where
    go : (s t : Bool) → ltb a b ≡ s → eqb a b ≡ t → Order a b
    go true t e f = less (ltb-true a b e)
    go false true e f = same (eqb-true a b f)
    go false false e f = more (let l = ltb-false a b e in let d = eqb-false a b f in omega arith)

module _ {p : ℕ → ℕ} {n : ℕ} {size start : ℕ → ℕ} (lower : Lower p n) (sizes : Sizes p n size) (starts : Starts p n size start) where
  -- siblings: the lower one ends before the other begins
  apart : (c d : ℕ) → c < d → d < n → p c ≡ p d → start c + size c ≤ start d
  apart c d h inside e =
      let sc : start c ≡ base start (p d) + total p size (p d) 0 c = rw e at (starts.each c (omega arith)) in
      let sd = starts.each d inside in
      let has = total_has p size (p d) c d h e in
      omega arith

  -- a child's range lies behind its parent's start, and inside
  one_up : (x q : ℕ) → x < n → p x ≡ suc q → (q < x) × (start q < start x) × (start x + size x ≤ start q + size q)
  one_up x q inside e =
      let less : q < x = (let l = lower.each x inside in omega arith) in
      let s : start x ≡ start q + 1 + total p size (suc q) 0 x = rw e at (starts.each x inside) in
      let z = sizes.each q (omega arith) in
      let has = total_has p size (suc q) x n inside e in
      (less, omega arith, omega arith)

  pub up_within : {x y : ℕ} → Up p x y → x < n → (start y ≤ start x) × (start x + size x ≤ start y + size y)
  up_within here inside = (omega arith, omega arith)
  up_within (above {x = x} {q = q} e u) inside =
      let one = one_up x q inside e in
      let more = up_within u (omega arith) in
      (omega arith, omega arith)

  -- y itself, or one right below y
  last_step : {x y : ℕ} → Up p x y → x < n → (x ≡ y) ⊎ ((c : ℕ) × (p c ≡ suc y) × Up p x c × (c < n))
  last_step here inside = inl refl
  last_step (above {x = x} {q = q} {y = y} e u) inside = go (last_step u (let one = one_up x q inside e in omega arith))
    where
      go : (q ≡ y) ⊎ ((c : ℕ) × (p c ≡ suc y) × Up p q c × (c < n)) → (x ≡ y) ⊎ ((c : ℕ) × (p c ≡ suc y) × Up p x c × (c < n))
      go (inl s) = inr (x, rw (← s) e, here, inside)
      go (inr f) = inr (f.0, f.1, above e f.2, f.3)

  root_of : (deep x : ℕ) → x < deep → x < n → (c : ℕ) × (p c ≡ zero) × Up p x c × (c < n)
  root_of zero x h inside = absurd (omega arith)
  root_of (suc deep) x h inside = go (p x) refl (root_of deep)
    where
      go : (o : ℕ) → p x ≡ o → ((y : ℕ) → y < deep → y < n → (c : ℕ) × (p c ≡ zero) × Up p y c × (c < n)) → (c : ℕ) × (p c ≡ zero) × Up p x c × (c < n)
      go zero e later = (x, e, here, inside)
      go (suc q) e later =
          let one = one_up x q inside e in
          let f = later q (omega arith) (omega arith) in
          (f.0, f.1, above e f.2, f.3)

  module _ (x : ℕ) (inside : x < n) where
    -- x is below a sibling of y: that sibling is y
    below_sibling : (y c : ℕ) → y < n → start y ≤ start x → start x < start y + size y → p c ≡ p y → c < n → Up p x c → Up p x y
    below_sibling y c yn low high e cn u = go (order c y)
      where
        go : Order c y → Up p x y
        go (less h) = absurd (let d = apart c y h yn e in let w = up_within u inside in let s = sizes.each x inside in omega arith)
        go (same s) = rw s at u
        go (more h) = absurd (let d = apart y c h cn (sym e) in let w = up_within u inside in omega arith)

    within_up : (deep y : ℕ) → y < deep → y < n → start y ≤ start x → start x < start y + size y → Up p x y
    within_up zero y h yn low high = absurd (omega arith)
    within_up (suc deep) y h yn low high = go (p y) refl (within_up deep)
      where
        child : (q : ℕ) → p y ≡ suc q → (x ≡ q) ⊎ ((c : ℕ) × (p c ≡ suc q) × Up p x c × (c < n)) → Up p x y
        child q e (inl s) = absurd (let one = one_up y q yn e in let t : start x ≡ start q = rw s in omega arith)
        child q e (inr f) = below_sibling y f.0 yn low high (f.1 ∙ sym e) f.3 f.2

        go : (o : ℕ) → p y ≡ o → ((z : ℕ) → z < deep → z < n → start z ≤ start x → start x < start z + size z → Up p x z) → Up p x y
        go zero e later = let f = root_of (suc x) x (omega arith) inside in below_sibling y f.0 yn low high (f.1 ∙ sym e) f.3 f.2
        go (suc q) e later =
            let one = one_up y q yn e in
            child q e (last_step (later q (omega arith) (omega arith) (omega arith) (omega arith)) inside)

  -- the law, the other way
  pub within_is_up : (x y : ℕ) → x < n → y < n → start y ≤ start x → start x < start y + size y → Up p x y
  within_is_up x y xn yn low high = within_up x xn (suc y) y (omega arith) yn low high
