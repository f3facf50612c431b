-- The functions meet the equations: every forest whose parents are lower has its sizes and its starts.
use Prim.Native.Nat.{ℕ, zero, suc, ◌+◌, ◌≤◌, ◌<◌}
use native.Mathlib.Omega.{arith}
use mathlib.Core.Path.{◌≡◌, refl}
use Rattle.scope.specs.Ranges.{total, base, size_of, start_of, size_in, start_in}
use Rattle.type_forest.specs.Forest.{Lower, Sizes, Starts}
use Rattle.type_forest.proofs.Totals.{total-agree}

module _ {p : ℕ → ℕ} {n : ℕ} (lower : Lower p n) where
  -- deep enough is deep enough
  size_deeper : (d e y : ℕ) → y < n → n ≤ y + d → n ≤ y + e → size_of p n d y ≡ size_of p n e y
  unfolding size_of
  size_deeper zero e y h far more = absurd (omega arith)
  size_deeper (suc d) zero y h far more = absurd (omega arith)
  size_deeper (suc d) (suc e) y h far more =
      let later = size_deeper d e in
      let agree = total-agree p (size_of p n d) (size_of p n e) (suc y) 0 n (λ c low high q. (let l = lower.each c (omega arith) in later c (omega arith) (omega arith) (omega arith))) in
      omega arith

  size_at : (k y : ℕ) → y < n → n ≤ k → size_of p n k y ≡ 1 + total p (size_of p n k) (suc y) 0 n
  unfolding size_of
  size_at zero y h far = absurd (omega arith)
  size_at (suc d) y h far =
      let agree = total-agree p (size_of p n d) (size_of p n (suc d)) (suc y) 0 n (λ c low high q. (let l = lower.each c (omega arith) in size_deeper d (suc d) c (omega arith) (omega arith) (omega arith))) in
      omega arith

  pub sizes_hold : Sizes p n (size_in p n)
  sizes_hold = record { each = λ y h. size_at n y h (omega arith) }

  module _ (size : ℕ → ℕ) where
    start_deeper : (d e x : ℕ) → x < n → x < d → x < e → start_of p size d x ≡ start_of p size e x
    unfolding start_of
    start_deeper zero e x h far more = absurd (omega arith)
    start_deeper (suc d) zero x h far more = absurd (omega arith)
    start_deeper (suc d) (suc e) x h far more = let bases = go (p x) (lower.each x h) (start_deeper d e) in omega arith
      where
        go : (o : ℕ) → o ≤ x → ((z : ℕ) → z < n → z < d → z < e → start_of p size d z ≡ start_of p size e z) → base (start_of p size d) o ≡ base (start_of p size e) o
        go zero low later = refl
        go (suc q) low later = let e = later q (omega arith) (omega arith) (omega arith) in omega arith

    start-at : (k x : ℕ) → x < n → x < k → start_of p size k x ≡ base (start_of p size k) (p x) + total p size (p x) 0 x
    unfolding start_of
    start-at zero x h far = absurd (omega arith)
    start-at (suc d) x h far = let bases = go (p x) (lower.each x h) in omega arith
      where
        go : (o : ℕ) → o ≤ x → base (start_of p size d) o ≡ base (start_of p size (suc d)) o
        go zero low = refl
        go (suc q) low = let e = start_deeper d (suc d) q (omega arith) (omega arith) (omega arith) in omega arith

  pub starts_hold : Starts p n (size_in p n) (start_in p n)
  starts_hold = record { each = λ x h. start-at (size_in p n) n x h h }
