-- The walk that finds the sizes, from the last number to the first; and no size is more than n, since what waits for a parent
-- is in all as much as the numbers that it was made of.
use Prim.Native.Nat.{ℕ, zero, suc, ◌+◌, ◌-◌, ◌≤◌, ◌<◌}
use native.Mathlib.Omega.{arith}
use mathlib.Core.Path.{◌≡◌, refl, sym, ◌∙◌}
use mathlib.Core.Bool.{Bool, true, false}
use borrow.Author.Tests.{eqb-true, eqb-false}
use lib.Dec.{eqb}
use Rattle.scope.specs.Ranges.{total}
use Rattle.type_forest.specs.Forest.{Sizes}
use Rattle.type_forest.specs.Walks.{waiting, Sizing, Grown}
use Rattle.type_forest.proofs.Totals.{total_first, total_skip, total-none, total-agree}

-- what waits

waiting_none : (p w : ℕ → ℕ) (k j : ℕ) → waiting p w k 0 j ≡ 0
unfolding waiting total
waiting_none p w k zero = refl
waiting_none p w k (suc j) = omega (arith, waiting_none p w k j)

waiting-agree : (p v w : ℕ → ℕ) (k m j : ℕ) → ((c : ℕ) → k ≤ c → c < k + m → v c ≡ w c) → waiting p v k m j ≡ waiting p w k m j
unfolding waiting
waiting-agree p v w k m zero same = refl
waiting-agree p v w k m (suc j) same = rw (total-agree p v w j k m (λ c low high e. same c low high), waiting-agree p v w k m j same)

module _ (p w : ℕ → ℕ) (k m : ℕ) where
  waiting_skip : (j : ℕ) → j ≤ p k → waiting p w k (suc m) j ≡ waiting p w (suc k) m j
  unfolding waiting
  waiting_skip zero h = refl
  waiting_skip (suc j) h = rw (total_skip p w j k m (λ e. omega arith), waiting_skip j (omega arith))

  waiting-first : (j : ℕ) → p k < j → waiting p w k (suc m) j ≡ w k + waiting p w (suc k) m j
  unfolding waiting
  waiting-first zero h = absurd (omega arith)
  waiting-first (suc j) h = go (eqb (p k) j) refl (waiting-first j)
    where
      go : (t : Bool) → eqb (p k) j ≡ t → (p k < j → waiting p w k (suc m) j ≡ w k + waiting p w (suc k) m j)
          → total p w j k (suc m) + waiting p w k (suc m) j ≡ w k + (total p w j (suc k) m + waiting p w (suc k) m j)
      go true e later =
          let q = eqb-true (p k) j e in
          omega (arith, total_first p w j k m q, waiting_skip j (omega arith))
      go false e later =
          let q = eqb-false (p k) j e in
          omega (arith, total_skip p w j k m q, later (omega arith))

  waiting_has : (o j : ℕ) → o < j → total p w o k m ≤ waiting p w k m j
  unfolding waiting
  waiting_has o zero h = absurd (omega arith)
  waiting_has o (suc j) h = go (eqb o j) refl (waiting_has o j)
    where
      go : (t : Bool) → eqb o j ≡ t → (o < j → total p w o k m ≤ waiting p w k m j) → total p w o k m ≤ total p w j k m + waiting p w k m j
      go true e later = rw (eqb-true o j e) (omega arith)
      go false e later = let q = eqb-false o j e in omega (arith, later (omega arith))

-- the walk

pub sizing_first : (p : ℕ → ℕ) (n : ℕ) (w : ℕ → ℕ) → ((y : ℕ) → y < n → w y ≡ 0) → Sizing p n n w
sizing_first p n w zeros =
    let e : n - n ≡ 0 = omega arith in
    record {
      most = omega arith;
      done = λ y low high. absurd (omega arith);
      part = λ y h. zeros y h ∙ sym (total-none p w (suc y) n (n - n) (λ c low high. absurd (omega arith)));
      few = rw (e, waiting_none p w n (suc n)) (omega arith);
    }

module _ {p : ℕ → ℕ} {n k : ℕ} {w : ℕ → ℕ} (s : Sizing p n (suc k) w) (lower : p k ≤ k) where
  -- what is in hand, and what a parent has: no more than n
  pub sizing_small : (y : ℕ) → y ≤ k → w y ≤ n
  sizing_small y h =
      let few = s.few in
      let e = s.part y (omega arith) in
      omega (arith, waiting_has p w (suc k) (n - suc k) (suc y) (suc (suc k)) (omega arith))

  module _ {w' : ℕ → ℕ} (g : Grown p k w w') where
    same_later : (c : ℕ) → suc k ≤ c → w' c ≡ w c
    same_later c h = g.others c (λ e. omega arith) (λ e. omega arith)

    agrees : (o : ℕ) → total p w' o (suc k) (n - suc k) ≡ total p w o (suc k) (n - suc k)
    agrees o = total-agree p w' w o (suc k) (n - suc k) (λ c low high e. same_later c low)

    waiting_last : waiting p w (suc k) (n - suc k) (suc (suc k)) ≡ total p w (suc k) (suc k) (n - suc k) + waiting p w (suc k) (n - suc k) (suc k)
    unfolding waiting
    waiting_last = refl

    few_at : waiting p w' k (suc (n - suc k)) (suc k) ≤ suc (n - suc k)
    few_at =
        let few = rw waiting_last at s.few in
        omega (
          arith,
          few,
          g.own,
          s.part k (omega arith),
          waiting-first p w' k (n - suc k) (suc k) (omega arith),
          waiting-agree p w' w (suc k) (n - suc k) (suc k) (λ c low high. same_later c low),
        )

    pub sizing_turn : Sizing p n k w'
    sizing_turn =
        let most = s.most in
        let e : n - k ≡ suc (n - suc k) = omega arith in
        record {
          most = omega arith;
          done = λ y low high. rw e (done_at y low high (eqb y k) refl);
          part = λ y h. rw e (part_at y h (eqb (p k) (suc y)) refl);
          few = rw e few_at;
        }
      where
        done_at : (y : ℕ) → k ≤ y → y < n → (t : Bool) → eqb y k ≡ t → w' y ≡ 1 + total p w' (suc y) k (suc (n - suc k))
        done_at y low high true q =
            let z = eqb-true y k q in
            let own = g.own in
            rw z (omega (arith, total_skip p w' (suc k) k (n - suc k) (λ f. omega arith), agrees (suc k), s.part k (omega arith)))
        done_at y low high false q =
            let z = eqb-false y k q in
            omega (arith, total_skip p w' (suc y) k (n - suc k) (λ f. omega arith), agrees (suc y), s.done y (omega arith) high, same_later y (omega arith))

        part_at : (y : ℕ) → y < k → (t : Bool) → eqb (p k) (suc y) ≡ t → w' y ≡ total p w' (suc y) k (suc (n - suc k))
        part_at y h true q =
            let z = eqb-true (p k) (suc y) q in
            omega (arith, total_first p w' (suc y) k (n - suc k) z, agrees (suc y), s.part y (omega arith), g.parent y z)
        part_at y h false q =
            let z = eqb-false (p k) (suc y) q in
            omega (arith, total_skip p w' (suc y) k (n - suc k) z, agrees (suc y), s.part y (omega arith), g.others y (λ f. omega arith) z)

-- in the end

pub sizing_last : {p : ℕ → ℕ} {n : ℕ} {w : ℕ → ℕ} → Sizing p n 0 w → Sizes p n w
sizing_last {p} {n} {w} s = let e : n - 0 ≡ n = omega arith in record { each = λ y h. rw e at (s.done y (omega arith) h) }

pub sizing_all : {p : ℕ → ℕ} {n : ℕ} {w : ℕ → ℕ} → Sizing p n 0 w → total p w 0 0 n ≤ n
unfolding waiting
sizing_all {p} {n} {w} s = let e : n - 0 ≡ n = omega arith in let few = rw e at s.few in omega arith
