-- Nearest by all magnitudes and nearest by the two half-way points are the same. One way the two neighbours are looked at;
-- the other way a magnitude further off is no nearer than the neighbour on its side.
use Prim.Native.Nat.{ℕ, zero, suc, ◌+◌, ◌*◌, ◌%◌, ◌≤◌, ◌<◌}
use native.Mathlib.Nat.{le_refl, le_of_lt, eq-or-lt_of_le, add-mul, mul-lt-mul_of_pos_right}
use native.Mathlib.Omega.{arith}
use mathlib.Core.Path.{◌≡◌, refl, sym, ◌∙◌}
use mathlib.Core.Logic.{inl, inr}
use Rattle.scope.specs.Rounding.{Width, infinite, units, gap, Nearest, rounded}
use Rattle.facts_floats.specs.Halfway.{Halfway, twice_halfway}
use Rattle.scope.proofs.Units.{lt-or-le, units_lt}
use Rattle.scope.proofs.Rounds.{rounded_nearest}

-- n, between x and y: nearer to x exactly below the half
module _ (n x y : ℕ) (l : x < y) where
  no_further : gap n x ≤ gap n y → n * 2 ≤ x + y
  no_further h = omega arith

  on_the_half : n * 2 ≡ x + y → gap n x ≡ gap n y
  on_the_half e = omega arith

  as_near : gap n x ≡ gap n y → n * 2 ≡ x + y
  as_near e = omega arith

  below_half : n * 2 ≤ x + y → gap n x ≤ gap n y
  below_half h = omega arith

  no_nearer : gap n y ≤ gap n x → x + y ≤ n * 2
  no_nearer h = omega arith

  above_half : x + y ≤ n * 2 → gap n y ≤ gap n x
  above_half h = omega arith

-- further off
module _ (n x y z : ℕ) where
  further_up : x < y → y < z → n * 2 ≤ x + y → gap n x < gap n z
  further_up h k l = omega arith

  further_down : x < y → y < z → y + z ≤ n * 2 → gap n z < gap n x
  further_down h k l = omega arith

module _ (w : Width) (n d : ℕ) (D : 0 < d) where
  abbrev at : ℕ → ℕ
  at m = units w m * d

  rises : {m r : ℕ} → m < r → at m < at r
  rises h = mul-lt-mul_of_pos_right (units_lt w h) D

  next : (m : ℕ) → at m < at (suc m)
  next m = rises (le_refl (suc m))

  halves : (m : ℕ) → twice_halfway w d m ≡ at m + at (suc m)
  halves m = add-mul (units w m) (units w (suc m)) d

  differ : (m : ℕ) → suc m ≡ m → ⊥
  differ m e = omega arith

  pub nearest_halfway : {r : ℕ} → Nearest w n d r → Halfway w n d r
  nearest_halfway {r} p =
      record {
        within = p.within;
        under = λ h. rw (halves r) (no_further n (at r) (at (suc r)) (next r) (p.closest (suc r) h));
        under_even = λ h e. p.even (suc r) h (differ r) (on_the_half n (at r) (at (suc r)) (next r) (e ∙ halves r));
        over = λ m e. low m e p.within p.closest;
        over_even = λ m e z. low_even m e z p.within p.even;
      }
    where
      low : (m : ℕ) → r ≡ suc m → r ≤ infinite w → ((o : ℕ) → o ≤ infinite w → gap n (at r) ≤ gap n (at o)) → twice_halfway w d m ≤ n * 2
      low m e h c = rw (halves m) (no_nearer n (at m) (at (suc m)) (next m) (rw e at (c m (le_of_lt (rw e at h)))))

      low_even : (m : ℕ) → r ≡ suc m → n * 2 ≡ twice_halfway w d m → r ≤ infinite w → ((o : ℕ) → o ≤ infinite w → (o ≡ r → ⊥) → gap n (at r) ≡ gap n (at o) → r % 2 ≡ 0) → r % 2 ≡ 0
      low_even m e z h c =
          c m (le_of_lt (rw e at h)) (λ o. differ m (sym e ∙ sym o)) (rw e (sym (on_the_half n (at m) (at (suc m)) (next m) (z ∙ halves m))))

  pub halfway_nearest : {r : ℕ} → Halfway w n d r → Nearest w n d r
  halfway_nearest {r} p = record { within = p.within; closest = λ m h. (side m h).0; even = λ m h o e. (side m h).1 o e }
    where
      above : (m : ℕ) → m ≤ infinite w → r < m → (gap n (at r) ≤ gap n (at m)) × ((m ≡ r → ⊥) → gap n (at r) ≡ gap n (at m) → r % 2 ≡ 0)
      above m h l =
          let under : n * 2 ≤ at r + at (suc r) = rw (halves r) at (p.under (lt_of l h)) in
          elim (eq-or-lt_of_le l) [
            | inl e ↦ rw (← e) (below_half n (at r) (at (suc r)) (next r) under, λ o g. p.under_even (lt_of l h) (as_near n (at r) (at (suc r)) (next r) g ∙ sym (halves r)))
            | inr k ↦
                let f : gap n (at r) < gap n (at m) = further_up n (at r) (at (suc r)) (at m) (next r) (rises k) under in
                (le_of_lt f, λ o g. absurd (omega arith))
          ]
        where
          lt_of : {x y z : ℕ} → x < y → y ≤ z → x < z
          lt_of a b = omega arith

      beneath : (m s : ℕ) → r ≡ suc s → m ≤ s → (gap n (at r) ≤ gap n (at m)) × ((m ≡ r → ⊥) → gap n (at r) ≡ gap n (at m) → r % 2 ≡ 0)
      beneath m s e l =
          let over : at s + at (suc s) ≤ n * 2 = rw (halves s) at (p.over s e) in
          elim (eq-or-lt_of_le l) [
            | inl g ↦ rw (g, e) (above_half n (at s) (at (suc s)) (next s) over, λ o z. rw e at (p.over_even s e (as_near n (at s) (at (suc s)) (next s) (sym z) ∙ sym (halves s))))
            | inr k ↦
                let f : gap n (at (suc s)) < gap n (at m) = further_down n (at m) (at s) (at (suc s)) (rises k) (next s) over in
                rw e (le_of_lt f, λ o z. absurd (omega arith))
          ]

      side : (m : ℕ) → m ≤ infinite w → (gap n (at r) ≤ gap n (at m)) × ((m ≡ r → ⊥) → gap n (at r) ≡ gap n (at m) → r % 2 ≡ 0)
      side m h = elim (lt-or-le r m) [
        | inl l ↦ above m h l
        | inr g ↦ elim (eq-or-lt_of_le g) [ inl e ↦ rw e (le_refl (gap n (at r)), λ o z. absurd (o refl)) | inr l ↦ pred r refl l ]
      ]
        where
          pred : (x : ℕ) → r ≡ x → m < x → (gap n (at r) ≤ gap n (at m)) × ((m ≡ r → ⊥) → gap n (at r) ≡ gap n (at m) → r % 2 ≡ 0)
          pred zero e l = absurd (omega arith)
          pred (suc s) e l = beneath m s e (omega arith)

  -- what is computed, by half-way points
  pub rounded_halfway : 0 < w.digits → Halfway w n d (rounded w n d)
  rounded_halfway some_digit = nearest_halfway (rounded_nearest w n d D some_digit)
