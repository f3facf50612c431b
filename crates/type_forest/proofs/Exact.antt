-- Sizes and starts are determined: whatever meets their equations is what the functions compute.
use Prim.Native.Nat.{ℕ, zero, suc, ◌+◌, ◌≤◌, ◌<◌}
use native.Mathlib.Omega.{arith}
use mathlib.Core.Path.{◌≡◌, refl, sym, ◌∙◌}
use Rattle.scope.specs.Ranges.{total, base, size_of, start_of, size_in, start_in}
use Rattle.type_forest.specs.Forest.{Lower, Sizes, Starts}
use Rattle.type_forest.proofs.Totals.{total-agree}

module _ {p : ℕ → ℕ} {n : ℕ} {size : ℕ → ℕ} (lower : Lower p n) (sizes : Sizes p n size) where
  sizes_deep : (deep y : ℕ) → y < n → n ≤ y + deep → size y ≡ size_of p n deep y
  unfolding size_of
  sizes_deep zero y h far = absurd (omega arith)
  sizes_deep (suc deep) y h far =
      let later = sizes_deep deep in
      let agree = total-agree p size (size_of p n deep) (suc y) 0 n (λ c low high e. (let l = lower.each c (omega arith) in later c (omega arith) (omega arith))) in
      omega (arith, sizes.each y h)

  pub sizes_exact : (y : ℕ) → y < n → size y ≡ size_in p n y
  sizes_exact y h = sizes_deep n y h (omega arith)

  module _ {start : ℕ → ℕ} (starts : Starts p n size start) where
    begun : (o x : ℕ) → x < n → total p size o 0 x ≡ total p (size_in p n) o 0 x
    begun o x h = total-agree p size (size_in p n) o 0 x (λ c low high e. sizes_exact c (omega arith))

    starts_deep : (deep x : ℕ) → x < n → x < deep → start x ≡ start_of p (size_in p n) deep x
    unfolding start_of
    starts_deep zero x h far = absurd (omega arith)
    starts_deep (suc deep) x h far =
        let bases = go (p x) (lower.each x h) (starts_deep deep) in
        omega (arith, starts.each x h, begun (p x) x h)
      where
        go : (o : ℕ) → o ≤ x → ((z : ℕ) → z < n → z < deep → start z ≡ start_of p (size_in p n) deep z) → base start o ≡ base (start_of p (size_in p n) deep) o
        go zero low later = refl
        go (suc q) low later = let e = later q (omega arith) (omega arith) in omega arith

    pub starts_exact : (x : ℕ) → x < n → start x ≡ start_in p n x
    starts_exact x h = starts_deep n x h h
