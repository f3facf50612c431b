-- Two lists whose elements are related one by one, under what the checker and the machine do to lists: put together, turned
-- around, read at a place, changed at a place. Each law is by recursion on the relation itself.
use Prim.Native.Nat.{ℕ, zero, suc, ◌<◌}
use native.Mathlib.Omega.{arith}
use mathlib.Core.Path.{◌≡◌, refl, sym, ap, ◌∙◌, subst}
use mathlib.Core.Logic.{◌⊎◌, inl, inr}
use mathlib.Core.Option.{some}
use mathlib.Core.List.{List, [], ◌∷◌, ◌++◌, reverse, reverse_aux, Forall₂}
use lib.ListN.{length, get_elem?, set}
use Rattle.scope.proofs.Truths.{none_is_not-some}

pub some_is_one : {A : Type 0} {x y : A} → some x ≡ some y → x ≡ y
some_is_one e = cc

module _ {A B : Type 0} {R : A → B → Type 0} where
  pub as_many : {xs : List A} {ys : List B} → Forall₂ R xs ys → length xs ≡ length ys
  as_many Forall₂.nil = refl
  as_many (Forall₂.cons r rs) = ap suc (as_many rs)

  pub append-both : {xs zs : List A} {ys ws : List B} → Forall₂ R xs ys → Forall₂ R zs ws → Forall₂ R (xs ++ zs) (ys ++ ws)
  append-both Forall₂.nil more = more
  append-both (Forall₂.cons r rs) more = Forall₂.cons r (append-both rs more)

  turned_onto : {xs zs : List A} {ys ws : List B} → Forall₂ R xs ys → Forall₂ R zs ws → Forall₂ R (reverse_aux xs zs) (reverse_aux ys ws)
  turned_onto Forall₂.nil more = more
  turned_onto (Forall₂.cons r rs) more = turned_onto rs (Forall₂.cons r more)

  pub turn_both : {xs : List A} {ys : List B} → Forall₂ R xs ys → Forall₂ R (reverse xs) (reverse ys)
  turn_both rs = turned_onto rs Forall₂.nil

  -- what stands at a place of the second list has its partner there
  pub at_second : {xs : List A} {ys : List B} (i : ℕ) {y : B} → Forall₂ R xs ys → get_elem? ys i ≡ some y → (x : A) × (get_elem? xs i ≡ some x) × R x y
  at_second i Forall₂.nil e = absurd (none_is_not-some e)
  at_second zero (Forall₂.cons {a = x} r rs) e = (x, refl, subst (R x) (some_is_one e) r)
  at_second (suc i) (Forall₂.cons r rs) e = at_second i rs e

  pub set_first : {xs : List A} {ys : List B} (i : ℕ) {x : A} {y : B} → Forall₂ R xs ys → get_elem? ys i ≡ some y → R x y → Forall₂ R (set xs i x) ys
  set_first i Forall₂.nil e n = Forall₂.nil
  set_first zero {x} (Forall₂.cons r rs) e n = Forall₂.cons (subst (R x) (sym (some_is_one e)) n) rs
  set_first (suc i) (Forall₂.cons r rs) e n = Forall₂.cons r (set_first i rs e n)

  -- a change that suits every partner
  pub set-second : {xs : List A} {ys : List B} (i : ℕ) → Forall₂ R xs ys → {y : B} → ((x : A) → R x y) → Forall₂ R xs (set ys i y)
  set-second i Forall₂.nil all = Forall₂.nil
  set-second zero (Forall₂.cons {a = x} r rs) all = Forall₂.cons (all x) rs
  set-second (suc i) (Forall₂.cons r rs) all = Forall₂.cons r (set-second i rs all)

  pub set_both : {xs : List A} {ys : List B} (i : ℕ) → Forall₂ R xs ys → {x : A} {y : B} → R x y → Forall₂ R (set xs i x) (set ys i y)
  set_both i Forall₂.nil n = Forall₂.nil
  set_both zero (Forall₂.cons r rs) n = Forall₂.cons n rs
  set_both (suc i) (Forall₂.cons r rs) n = Forall₂.cons r (set_both i rs n)

pub each_pair : {A B : Type 0} {R S : A → B → Type 0} → ((x : A) (y : B) → R x y → S x y) → {xs : List A} {ys : List B} → Forall₂ R xs ys → Forall₂ S xs ys
each_pair f Forall₂.nil = Forall₂.nil
each_pair f (Forall₂.cons {a = x} {b = y} r rs) = Forall₂.cons (f x y r) (each_pair f rs)

-- places of one list

module _ {A : Type 0} where
  pub inside : (xs : List A) (i : ℕ) {x : A} → get_elem? xs i ≡ some x → i < length xs
  inside [] i e = absurd (none_is_not-some e)
  inside (y ∷ xs) zero e = omega arith
  inside (y ∷ xs) (suc i) e = let later : i < length xs = inside xs i e in omega arith

  pub at-append : (xs ys : List A) (i : ℕ) {x : A} → get_elem? xs i ≡ some x → get_elem? (xs ++ ys) i ≡ some x
  at-append [] ys i e = absurd (none_is_not-some e)
  at-append (z ∷ xs) ys zero e = e
  at-append (z ∷ xs) ys (suc i) e = at-append xs ys i e

  pub at_last : (xs : List A) (x : A) → get_elem? (xs ++ x ∷ []) (length xs) ≡ some x
  at_last [] x = refl
  at_last (z ∷ xs) x = at_last xs x

  pub at-one_more : (xs : List A) (x : A) (i : ℕ) {y : A} → get_elem? (xs ++ x ∷ []) i ≡ some y → (get_elem? xs i ≡ some y) ⊎ (x ≡ y)
  at-one_more [] x zero e = inr (some_is_one e)
  at-one_more [] x (suc i) e = absurd (none_is_not-some e)
  at-one_more (z ∷ xs) x zero e = inl e
  at-one_more (z ∷ xs) x (suc i) e = at-one_more xs x i e

  pub at_set : (xs : List A) (j i : ℕ) {x y : A} → get_elem? (set xs j x) i ≡ some y → (get_elem? xs i ≡ some y) ⊎ (x ≡ y)
  at_set [] j i e = absurd (none_is_not-some e)
  at_set (z ∷ xs) zero zero e = inr (some_is_one e)
  at_set (z ∷ xs) zero (suc i) e = inl e
  at_set (z ∷ xs) (suc j) zero e = inl e
  at_set (z ∷ xs) (suc j) (suc i) e = at_set xs j i e

  -- what stood at the changed place, or at another one
  pub set_at :
      (xs : List A) (j i : ℕ) {x y z : A} → get_elem? xs j ≡ some z → get_elem? xs i ≡ some y
      → (get_elem? (set xs j x) i ≡ some y) ⊎ ((get_elem? (set xs j x) i ≡ some x) × (z ≡ y))
  set_at [] j i f e = absurd (none_is_not-some e)
  set_at (w ∷ xs) zero zero f e = inr (refl, some_is_one (sym f ∙ e))
  set_at (w ∷ xs) zero (suc i) f e = inl e
  set_at (w ∷ xs) (suc j) zero f e = inl e
  set_at (w ∷ xs) (suc j) (suc i) f e = set_at xs j i f e
