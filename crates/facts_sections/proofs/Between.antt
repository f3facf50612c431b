-- Stretches that meet join, and a stretch of w and then u comes apart; the whole of s lies between 0 and its length, and nothing
-- else does.
use Prim.Native.Nat.{ℕ, suc, ◌+◌}
use native.Mathlib.Omega.{arith}
use native.Mathlib.Numerals.{add-one}
use mathlib.Core.Path.{◌≡◌, refl}
use mathlib.Core.Option.{some}
use mathlib.Core.List.{List, [], ◌∷◌, ◌++◌}
use lib.ListN.{length, get_elem?}
use Rattle.facts_sections.specs.Between.{Between, nothing, byte}

module _ {s : List ℕ} where
  pub join : {at mid end : ℕ} {w u : List ℕ} → Between s at w mid → Between s mid u end → Between s at (w ++ u) end
  join nothing second = second
  join (byte e first) second = byte e (join first second)

  pub split : (w : List ℕ) {at end : ℕ} {u : List ℕ} → Between s at (w ++ u) end → (mid : ℕ) × Between s at w mid × Between s mid u end
  split [] {at} stretch = (at, nothing, stretch)
  split (b ∷ w) (byte e stretch) = let (mid, first, second) = split w stretch in (mid, byte e first, second)

  pub end_is : {at end : ℕ} {w : List ℕ} → Between s at w end → end ≡ at + length w
  end_is nothing = omega arith
  end_is (byte e more) = let later = end_is more in omega arith

  -- what stands behind a stretch of w stands length w further on
  pub behind : {A : Type 0} (P : ℕ → List ℕ → A → Type 0) {at mid : ℕ} {w u : List ℕ} {x : A} → Between s at w mid → P mid u x → P (at + length w) u x
  behind P first p = rw (end_is first) at p

  pub split_at : (w : List ℕ) {at end : ℕ} {u : List ℕ} → Between s at (w ++ u) end → Between s at w (at + length w) × Between s (at + length w) u end
  split_at w {at} {end} {u} stretch = let (mid, first, second) = split w stretch in meet first second
    where
      meet : {mid : ℕ} → Between s at w mid → Between s mid u end → Between s at w (at + length w) × Between s (at + length w) u end
      meet first second = let e = end_is first in (rw e at first, rw e at second)

  only_apart : {at end end' : ℕ} {w u : List ℕ} → end ≡ end' → Between s at w end → Between s at u end' → w ≡ u
  only_apart q nothing nothing = refl
  only_apart q nothing (byte e more) = absurd (let later = end_is more in omega arith)
  only_apart q (byte e more) nothing = absurd (let later = end_is more in omega arith)
  only_apart q (byte {b = b} e more) (byte {b = c} f later) = let r : b ≡ c = cc in let p = only_apart q more later in cc

  pub only_one : {at end : ℕ} {w u : List ℕ} → Between s at w end → Between s at u end → w ≡ u
  only_one first second = only_apart refl first second

further : {s : List ℕ} {at end : ℕ} {w : List ℕ} (b : ℕ) → Between s at w end → Between (b ∷ s) (at + 1) w (end + 1)
further b nothing = nothing
further {s} b (byte {at = at} {b = c} e more) = let there : get_elem? (b ∷ s) (at + 1) ≡ some c = rw add-one e in byte there (further b more)

pub whole : (s : List ℕ) → Between s 0 s (length s)
whole [] = nothing
whole (b ∷ s) = let rest : Between (b ∷ s) 1 s (suc (length s)) = rw (← add-one (length s)) (further b (whole s)) in byte refl rest

pub whole_only : {s w : List ℕ} → Between s 0 w (length s) → w ≡ s
whole_only {s} stretch = only_one stretch (whole s)
