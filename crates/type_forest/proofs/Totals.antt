-- Sums of weights: split in two, one number more, none that counts, the same where the weights are.
use Prim.Native.Nat.{ℕ, zero, suc, ◌+◌, ◌-◌, ◌≤◌, ◌<◌}
use native.Mathlib.Omega.{arith}
use mathlib.Core.Path.{◌≡◌, refl}
use mathlib.Core.Bool.{Bool, true, false}
use borrow.Author.Tests.{eq-eqb, ne_eqb, eqb-true}
use lib.Dec.{eqb}
use Rattle.scope.specs.Ranges.{weighed, total}

module _ (p w : ℕ → ℕ) (o : ℕ) where
  pub total_split : (k a b : ℕ) → total p w o k (a + b) ≡ total p w o k a + total p w o (k + a) b
  unfolding total
  total_split k zero b =
      let e : k + zero ≡ k = omega arith in
      let f : zero + b ≡ b = omega arith in
      rw (e, f) (omega arith)
  total_split k (suc a) b =
      let e : k + suc a ≡ suc k + a = omega arith in
      let f : suc a + b ≡ suc (a + b) = omega arith in
      rw (e, f) (omega (arith, total_split (suc k) a b))

  total-one : (k : ℕ) → total p w o k 1 ≡ weighed (eqb (p k) o) (λ t. w k)
  unfolding total
  total-one k = omega arith

  -- one number more
  pub total_more : (x : ℕ) → total p w o 0 (suc x) ≡ total p w o 0 x + weighed (eqb (p x) o) (λ t. w x)
  total_more x =
      let e : suc x ≡ x + 1 = omega arith in
      let f : 0 + x ≡ x = omega arith in
      let split = total_split 0 x 1 in
      let split' = rw f at split in
      rw e (omega (arith, total-one x))

  -- a number that counts, and those before it
  pub total_has : (x n : ℕ) → x < n → p x ≡ o → total p w o 0 x + w x ≤ total p w o 0 n
  total_has x n h e =
      let f : n ≡ suc x + (n - suc x) = omega arith in
      let one = total_more x in
      let one' = rw (eq-eqb (p x) o e) at one in
      rw f (omega (arith, total_split 0 (suc x) (n - suc x)))

  pub total_mono : (x n : ℕ) → x ≤ n → total p w o 0 x ≤ total p w o 0 n
  total_mono x n h = let f : n ≡ x + (n - x) = omega arith in rw f (omega (arith, total_split 0 x (n - x)))

  -- the first of them counts, or does not
  pub total_first : (k m : ℕ) → p k ≡ o → total p w o k (suc m) ≡ w k + total p w o (suc k) m
  unfolding total
  total_first k m e = rw (eq-eqb (p k) o e)

  pub total_skip : (k m : ℕ) → (p k ≡ o → ⊥) → total p w o k (suc m) ≡ total p w o (suc k) m
  unfolding total
  total_skip k m e = rw (ne_eqb (p k) o e) (omega arith)

  -- none counts
  pub total-none : (k m : ℕ) → ((c : ℕ) → k ≤ c → c < k + m → p c ≡ o → ⊥) → total p w o k m ≡ 0
  unfolding total
  total-none k zero none = refl
  total-none k (suc m) none =
      rw (ne_eqb (p k) o (none k (omega arith) (omega arith))) (omega (arith, total-none (suc k) m (λ c low high. none c (omega arith) (omega arith))))

module _ (p v w : ℕ → ℕ) (o : ℕ) where
  pub total-agree : (k m : ℕ) → ((c : ℕ) → k ≤ c → c < k + m → p c ≡ o → v c ≡ w c) → total p v o k m ≡ total p w o k m
  unfolding total
  total-agree k zero same = refl
  total-agree k (suc m) same = go (eqb (p k) o) refl (total-agree (suc k) m (λ c low high. same c (omega arith) (omega arith)))
    where
      go : (t : Bool) → eqb (p k) o ≡ t → total p v o (suc k) m ≡ total p w o (suc k) m → weighed t (λ u. v k) + total p v o (suc k) m ≡ weighed t (λ u. w k) + total p w o (suc k) m
      go true e later = rw (same k (omega arith) (omega arith) (eqb-true (p k) o e), later)
      go false e later = rw later
