-- Where something stands in lists that are put together: one after the other, turned round, or made of entries of two words each.
use Prim.Native.Nat.{ℕ, zero, suc, ◌+◌, ◌*◌}
use native.Mathlib.Omega.{arith}
use mathlib.Core.Path.{◌≡◌, refl, sym, subst}
use mathlib.Core.Logic.{◌⊎◌, inl, inr}
use mathlib.Core.List.{List, [], ◌∷◌, ◌++◌, map, reverse, reverse_aux}
use lib.ListN.{length, length-append}
use Rattle.scope.specs.Lists.{joined}
use Rattle.facts_steps.specs.Places.{Stands, stands_first, stands_later}
use Rattle.facts_states.specs.StateLayout.{FromBottom, topmost, further_down}

module _ {A : Type 0} where
  pub nowhere : {k : ℕ} {x : A} → Stands k x [] → ⊥
  nowhere = elim [ ]

  pub at_place : {j k : ℕ} {x : A} {xs : List A} → j ≡ k → Stands j x xs → Stands k x xs
  at_place {x = x} {xs} e s = subst (λ n. Stands n x xs) e s

  -- one after the other

  pub record InSecond (xs ys : List A) (k : ℕ) (x : A) : Type 0 where
    pub place : ℕ
    pub there : Stands place x ys
    pub at : k ≡ length xs + place

  pub in_append : (xs ys : List A) {k : ℕ} {x : A} → Stands k x (xs ++ ys) → Stands k x xs ⊎ InSecond xs ys k x
  in_append [] ys {k} s = inr (record { place = k; there = s; at = omega arith })
  in_append (y ∷ xs) ys s = go s (λ k. in_append xs ys {k = k})
    where
      go : {k : ℕ} {x : A} → Stands k x (y ∷ xs ++ ys) → ((j : ℕ) → Stands j x (xs ++ ys) → Stands j x xs ⊎ InSecond xs ys j x)
          → Stands k x (y ∷ xs) ⊎ InSecond (y ∷ xs) ys k x
      go stands_first later = inl stands_first
      go {x = x} (stands_later {i = i} t) later = on (later i t)
        where
          on : Stands i x xs ⊎ InSecond xs ys i x → Stands (suc i) x (y ∷ xs) ⊎ InSecond (y ∷ xs) ys (suc i) x
          on (inl here) = inl (stands_later here)
          on (inr r) = let e = r.at in inr (record { place = r.place; there = r.there; at = omega arith })

  pub in_first : {k : ℕ} {x : A} {xs : List A} (ys : List A) → Stands k x xs → Stands k x (xs ++ ys)
  in_first ys stands_first = stands_first
  in_first ys (stands_later s) = stands_later (in_first ys s)

  pub in_second : (xs : List A) {ys : List A} {k : ℕ} {x : A} → Stands k x ys → Stands (length xs + k) x (xs ++ ys)
  in_second [] s = at_place (omega arith) s
  in_second (y ∷ xs) s = at_place (omega arith) (stands_later (in_second xs s))

  -- turned round

  turned_said : (xs acc : List A) {k : ℕ} {x : A} → Stands k x (reverse_aux xs acc) → FromBottom xs k x ⊎ InSecond xs acc k x
  turned_said [] acc {k} s = inr (record { place = k; there = s; at = omega arith })
  turned_said (y ∷ xs) acc {k} {x} s = go (turned_said xs (y ∷ acc) s)
    where
      last : {j : ℕ} {z : A} → Stands j z (y ∷ acc) → k ≡ length xs + j → FromBottom (y ∷ xs) k z ⊎ InSecond (y ∷ xs) acc k z
      last stands_first e = let same : length xs ≡ k = omega arith in inl (subst (λ n. FromBottom (y ∷ xs) n y) same topmost)
      last (stands_later {i = i} t) e = inr (record { place = i; there = t; at = omega arith })

      go : FromBottom xs k x ⊎ InSecond xs (y ∷ acc) k x → FromBottom (y ∷ xs) k x ⊎ InSecond (y ∷ xs) acc k x
      go (inl b) = inl (further_down b)
      go (inr r) = last r.there r.at

  pub reverse-said : (xs : List A) {k : ℕ} {x : A} → Stands k x (reverse xs) → FromBottom xs k x
  reverse-said xs {k} {x} s = go (turned_said xs [] s)
    where
      go : FromBottom xs k x ⊎ InSecond xs [] k x → FromBottom xs k x
      go (inl b) = b
      go (inr r) = absurd (nowhere r.there)

  kept_behind : (xs acc : List A) {k : ℕ} {x : A} → Stands k x acc → Stands (length xs + k) x (reverse_aux xs acc)
  kept_behind [] acc s = at_place (omega arith) s
  kept_behind (y ∷ xs) acc s = at_place (omega arith) (kept_behind xs (y ∷ acc) (stands_later s))

  turned_stands : {xs : List A} {k : ℕ} {x : A} (acc : List A) → FromBottom xs k x → Stands k x (reverse_aux xs acc)
  turned_stands acc (topmost {x = x} {xs = xs}) = at_place (omega arith) (kept_behind xs (x ∷ acc) {x = x} stands_first)
  turned_stands acc (further_down {x = x} b) = turned_stands (x ∷ acc) b

  pub reverse_stands : {xs : List A} {k : ℕ} {x : A} → FromBottom xs k x → Stands k x (reverse xs)
  reverse_stands b = turned_stands [] b

  -- from the bottom of two lists

  pub record InUpper (xs ys : List A) (k : ℕ) (x : A) : Type 0 where
    pub place : ℕ
    pub there : FromBottom xs place x
    pub at : k ≡ length ys + place

  pub from_either : (xs ys : List A) {k : ℕ} {x : A} → FromBottom (xs ++ ys) k x → FromBottom ys k x ⊎ InUpper xs ys k x
  from_either [] ys b = inl b
  from_either (y ∷ xs) ys b = go b (λ k. from_either xs ys {k = k})
    where
      go : {k : ℕ} {x : A} → FromBottom (y ∷ xs ++ ys) k x → ((j : ℕ) → FromBottom (xs ++ ys) j x → FromBottom ys j x ⊎ InUpper xs ys j x)
          → FromBottom ys k x ⊎ InUpper (y ∷ xs) ys k x
      go topmost later = let e = length-append xs ys in inr (record { place = length xs; there = topmost; at = omega arith })
      go {k} {x} (further_down t) later = on (later k t)
        where
          on : FromBottom ys k x ⊎ InUpper xs ys k x → FromBottom ys k x ⊎ InUpper (y ∷ xs) ys k x
          on (inl b) = inl b
          on (inr r) = inr (record { place = r.place; there = further_down r.there; at = r.at })

  pub from_lower : (xs : List A) {ys : List A} {k : ℕ} {x : A} → FromBottom ys k x → FromBottom (xs ++ ys) k x
  from_lower [] b = b
  from_lower (y ∷ xs) b = further_down (from_lower xs b)

  pub from_upper : {xs : List A} (ys : List A) {k : ℕ} {x : A} → FromBottom xs k x → FromBottom (xs ++ ys) (length ys + k) x
  from_upper ys (topmost {x = x} {xs = xs}) =
      let e : length (xs ++ ys) ≡ length ys + length xs = let f = length-append xs ys in omega arith in
      subst (λ n. FromBottom (x ∷ xs ++ ys) n x) e topmost
  from_upper ys (further_down b) = further_down (from_upper ys b)

-- entries of two words

-- what the two words of an entry are, and that they are all that is said of it
pub record TwoWords {A : Type 0} (f : A → List ℕ) (R : A → ℕ → ℕ → Type 0) : Type 0 where
  pub one : A → ℕ
  pub two : A → ℕ
  pub words : (x : A) → f x ≡ one x ∷ two x ∷ []
  pub says_one : (x : A) → R x 0 (one x)
  pub says_two : (x : A) → R x 1 (two x)
  pub only : (x : A) (j w : ℕ) → R x j w → ((j ≡ 0) × (w ≡ one x)) ⊎ ((j ≡ 1) × (w ≡ two x))

pub record Entry {A : Type 0} (R : A → ℕ → ℕ → Type 0) (xs : List A) (k w : ℕ) : Type 0 where
  pub i : ℕ
  pub j : ℕ
  pub x : A
  pub there : Stands i x xs
  pub is : R x j w
  pub at : k ≡ 2 * i + j

module _ {A : Type 0} {f : A → List ℕ} {R : A → ℕ → ℕ → Type 0} (t : TwoWords f R) where
  pub two_said : (xs : List A) {k w : ℕ} → Stands k w (joined (map f xs)) → Entry R xs k w
  two_said [] s = absurd (nowhere s)
  two_said (x ∷ xs) {k} {w} s = go (subst (λ (ws : List ℕ). Stands k w (ws ++ joined (map f xs))) (t.words x) s) (λ n. two_said xs {k = n})
    where
      go : {k w : ℕ} → Stands k w (t.one x ∷ t.two x ∷ joined (map f xs)) → ((n : ℕ) → Stands n w (joined (map f xs)) → Entry R xs n w) → Entry R (x ∷ xs) k w
      go stands_first later = record { i = 0; j = 0; x = x; there = stands_first; is = t.says_one x; at = refl }
      go (stands_later stands_first) later = record { i = 0; j = 1; x = x; there = stands_first; is = t.says_two x; at = refl }
      go (stands_later (stands_later {i = n} u)) later =
          let e = later n u in
          let q = e.at in
          record { i = suc e.i; j = e.j; x = e.x; there = stands_later e.there; is = e.is; at = omega arith }

  two-words : (x : A) (rest : List ℕ) {j w : ℕ} → R x j w → Stands j w (f x ++ rest)
  two-words x rest {j} {w} r = subst (λ (ws : List ℕ). Stands j w (ws ++ rest)) (sym (t.words x)) (go (t.only x j w r))
    where
      go : ((j ≡ 0) × (w ≡ t.one x)) ⊎ ((j ≡ 1) × (w ≡ t.two x)) → Stands j w (t.one x ∷ t.two x ∷ rest)
      go (inl (a, b)) = rw (a, b) stands_first
      go (inr (a, b)) = rw (a, b) (stands_later stands_first)

  pub two_stands : {xs : List A} {i j k w : ℕ} {x : A} → Stands i x xs → R x j w → k ≡ 2 * i + j → Stands k w (joined (map f xs))
  two_stands (stands_first {x = x} {xs = xs}) r e = at_place (omega arith) (two-words x (joined (map f xs)) r)
  two_stands {k = k} {w} (stands_later {i = i} {y = y} {xs = xs} s) r e =
      let rest = two_stands s r refl in
      let long : length (f y) ≡ 2 = rw (t.words y) in
      at_place (omega arith) (in_second (f y) rest)
