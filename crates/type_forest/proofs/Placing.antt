-- The walk that finds the starts, from the first number to the last. A number's end so far is where its next child begins.
use Prim.Native.Nat.{ℕ, zero, suc, ◌+◌, ◌-◌, ◌≤◌, ◌<◌}
use native.Mathlib.Omega.{arith}
use mathlib.Core.Path.{◌≡◌, refl, sym, ◌∙◌}
use mathlib.Core.Bool.{Bool, true, false}
use borrow.Author.Tests.{eqb-true, eqb-false, eq-eqb, ne_eqb}
use lib.Dec.{eqb}
use Rattle.scope.specs.Ranges.{total, base}
use Rattle.type_forest.specs.Forest.{Lower, Sizes, Starts}
use Rattle.type_forest.specs.Walks.{Placing, Placed}
use Rattle.type_forest.proofs.Totals.{total_more, total_has, total_mono, total-none}

module _ (p w : ℕ → ℕ) (o x : ℕ) where
  more_yes : p x ≡ o → total p w o 0 (suc x) ≡ total p w o 0 x + w x
  more_yes e = let m = total_more p w o x in rw (eq-eqb (p x) o e) at m

  more_no : (p x ≡ o → ⊥) → total p w o 0 (suc x) ≡ total p w o 0 x
  more_no e = let m = total_more p w o x in let m' = rw (ne_eqb (p x) o e) at m in omega arith

pub placing_first : (p : ℕ → ℕ) (n : ℕ) (size start : ℕ → ℕ) → Placing p n size 0 start size 1
unfolding total
placing_first p n size start =
    record {
      most = omega arith;
      starts = λ y h. absurd (omega arith);
      ends = λ y h. absurd (omega arith);
      later = λ y low high. refl;
      root = refl;
      bound = λ y h. absurd (omega arith);
    }

module _ {p : ℕ → ℕ} {n : ℕ} {size : ℕ → ℕ} (lower : Lower p n) (sizes : Sizes p n size) (all : total p size 0 0 n ≤ n) where
  module _ {x : ℕ} {start end : ℕ → ℕ} {next : ℕ} (s : Placing p n size x start end next) (inside : x < n) where
    own_size : end x ≡ size x
    own_size = s.later x (omega arith) inside

    -- what is moved on stays in its bounds
    pub placing_root : p x ≡ zero → next + end x ≤ n + 1
    placing_root e =
        let r = s.root in
        omega (arith, own_size, total_has p size 0 x n inside e)

    pub placing_child : (q : ℕ) → p x ≡ suc q → end q + end x ≤ n + 1
    placing_child q e =
        let less : q < x = (let l = lower.each x inside in omega arith) in
        omega (arith, own_size, s.ends q less, s.bound q less, sizes.each q (omega arith), total_has p size (suc q) x n inside e)

    own_small : (o : ℕ) → p x ≡ o → end x ≤ n + 1
    own_small zero e = omega (arith, placing_root e)
    own_small (suc q) e = omega (arith, placing_child q e)

    pub placing_small : (y : ℕ) → y ≤ x → end y ≤ n + 1
    placing_small y h = go (eqb y x) refl
      where
        go : (t : Bool) → eqb y x ≡ t → end y ≤ n + 1
        go true f = rw (eqb-true y x f) (own_small (p x) refl)
        go false f =
            let z = eqb-false y x f in
            omega (arith, s.ends y (omega arith), s.bound y (omega arith), sizes.each y (omega arith), total_mono p size (suc y) x n (omega arith))

    pub placing_next : next ≤ n + 1
    placing_next = omega (arith, s.root, total_mono p size 0 x n (omega arith))

    module _ {start' end' : ℕ → ℕ} {next' : ℕ} (g : Placed p x start end next start' end' next') where
      same_base : (o : ℕ) → o ≤ x → base start' o ≡ base start o
      same_base zero h = refl
      same_base (suc q) h = let e = g.starts q (λ f. omega arith) in rw e

      start_own : (o : ℕ) → p x ≡ o → start' x ≡ base start o + total p size o 0 x
      start_own zero e = omega (arith, (g.alone e).0, s.root)
      start_own (suc q) e =
          let less : q < x = (let l = lower.each x inside in omega arith) in
          omega (arith, (g.child q e).0, s.ends q less)

      starts-at : (y : ℕ) → y < suc x → (t : Bool) → eqb y x ≡ t → start' y ≡ base start' (p y) + total p size (p y) 0 y
      starts-at y h true f =
          let z = eqb-true y x f in
          rw z (start_own (p x) refl ∙ rw (same_base (p x) (lower.each x inside)))
      starts-at y h false f =
          let z = eqb-false y x f in
          let l = lower.each y (omega arith) in
          rw (same_base (p y) (omega arith)) (g.starts y z ∙ s.starts y (omega arith))

      ends_own : end' x ≡ start' x + 1 + total p size (suc x) 0 (suc x)
      ends_own = omega (arith, g.own, total-none p size (suc x) 0 (suc x) (λ c low high e. let l = lower.each c (omega arith) in omega arith))

      ends_at : (y : ℕ) → y < x → (t : Bool) → eqb (p x) (suc y) ≡ t → end' y ≡ start' y + 1 + total p size (suc y) 0 (suc x)
      ends_at y h true f =
          let z = eqb-true (p x) (suc y) f in
          omega (arith, (g.child y z).1, own_size, s.ends y h, g.starts y (λ e. omega arith), more_yes p size (suc y) x z)
      ends_at y h false f =
          let z = eqb-false (p x) (suc y) f in
          omega (arith, g.ends y (λ e. omega arith) z, s.ends y h, g.starts y (λ e. omega arith), more_no p size (suc y) x z)

      ends_all : (y : ℕ) → y < suc x → (t : Bool) → eqb y x ≡ t → end' y ≡ start' y + 1 + total p size (suc y) 0 (suc x)
      ends_all y h true f = rw (eqb-true y x f) ends_own
      ends_all y h false f = let z = eqb-false y x f in ends_at y (omega arith) (eqb (p x) (suc y)) refl

      root-at : (o : ℕ) → p x ≡ o → next' ≡ 1 + total p size 0 0 (suc x)
      root-at zero e = omega (arith, (g.alone e).1, own_size, s.root, more_yes p size 0 x e)
      root-at (suc q) e = omega (arith, (g.child q e).2, s.root, more_no p size 0 x (λ f. omega arith))

      bound_own : (o : ℕ) → p x ≡ o → start' x + size x ≤ n + 1
      bound_own zero e = omega (arith, placing_root e, own_size, (g.alone e).0)
      bound_own (suc q) e = omega (arith, placing_child q e, own_size, (g.child q e).0)

      bound_at : (y : ℕ) → y < suc x → (t : Bool) → eqb y x ≡ t → start' y + size y ≤ n + 1
      bound_at y h true f = rw (eqb-true y x f) (bound_own (p x) refl)
      bound_at y h false f = let z = eqb-false y x f in omega (arith, g.starts y z, s.bound y (omega arith))

      pub placing_turn : Placing p n size (suc x) start' end' next'
      placing_turn =
          record {
            most = omega arith;
            starts = λ y h. starts-at y h (eqb y x) refl;
            ends = λ y h. ends_all y h (eqb y x) refl;
            later = λ y low high. (let l = lower.each x inside in g.ends y (λ e. omega arith) (λ e. omega arith) ∙ s.later y (omega arith) high);
            root = root-at (p x) refl;
            bound = λ y h. bound_at y h (eqb y x) refl;
          }

  -- in the end

  module _ {start end : ℕ → ℕ} {next : ℕ} (s : Placing p n size n start end next) where
    pub placing_starts : Starts p n size start
    placing_starts = record { each = s.starts }

    pub placing_ends : (y : ℕ) → y < n → end y ≡ start y + size y
    placing_ends y h = omega (arith, s.ends y h, sizes.each y h)
